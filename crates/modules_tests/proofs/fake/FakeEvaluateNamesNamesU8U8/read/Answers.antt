use Rattle.std.proofs.Common.{◌≡◌, ◌∙◌}
use Rattle.std.proofs.lemmas.Result.{IfOk-weaker}
use Rattle.modules_tests.specs.Fakes.{file_in}
use Rattle.modules_tests.proofs.Files.{found, nowhere}
use Rattle.modules_tests.proofs.fake.FakeEvaluateNamesNamesU8U8.read.Goals as goal

pub returns-in-Some : goal.returns-in-Some
returns-in-Some c =
    let s = c.args.self.now in
    IfOk-weaker c.file.result (λ f. f ≡ c.index.result.now) (λ f. f ≡ file_in s.paths s.files.items c.args.path.now)
    (λ f is. is ∙ found s.paths s.files.items c.args.path.now c.in-Some.n c.number.result c.index.result.now c.in-Some.ensures.paths s.sized c.in-Some.ensures.value c.number.ensures c.index.ensures) c.file.ensures

pub returns-in-None : goal.returns-in-None
returns-in-None c = let s = c.args.self.now in nowhere s.paths s.files.items c.args.path.now c.in-None.ensures.value

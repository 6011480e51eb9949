use Rattle.std.proofs.Common.{◌≡◌, ◌∙◌, ap, sym, subst, refl}
use Rattle.std.specs.Prelude.{IfOk}
use Rattle.evaluation.specs.Workspaces.{read_file}
use Rattle.sources.specs.Kept.{KeptView}
use Rattle.sources.proofs.Reading.{loads_are, number_low, read_present, read_absent}
use Rattle.sources.proofs.sources.Sources.read.Goals as goal

pub returns-in-Some : goal.returns-in-Some
returns-in-Some c =
    let fs = c.self.inside.files in
    let q = c.args.path.now in
    let n = c.in-Some.number in
    let at = sym c.in-Some.ensures.number in
    let loads = ap (λ (k : KeptView). k.loads) c.kept.view_is
    ∙ loads_are fs fs c.self.inside.kept.items n refl c.self.invariant.kept_are (number_low fs q n at) c.index-kept.result.now c.index-kept.ensures in
    let is = read_present fs q n c.kept.inside.loads at loads ∙ ap (λ x. read_file x q) c.self.view_is in
    subst (λ x. IfOk c.as_read.result (λ r. r ≡ x)) is c.as_read.ensures

pub returns-in_ok-kept-in-None : goal.returns-in_ok-kept-in-None
returns-in_ok-kept-in-None c =
    let fs = c.self.inside.files in
    let q = c.args.path.now in
    let loads = ap (λ (k : KeptView). k.loads) (c.kept-in-None.view_is ∙ c.in_ok-kept-in-None.ensures.kept) in
    let is = read_absent fs q c.len.result c.kept-in-None.inside.loads c.len.ensures (sym c.in-None.ensures.number) c.in-None.ensures.absent loads ∙ ap (λ x. read_file x q) c.self.view_is in
    subst (λ x. IfOk c.as_read-in-None.result (λ r. r ≡ x)) is c.as_read-in-None.ensures

use Rattle.std.proofs.Common.{◌≡◌, ◌∙◌, Ok, Err, None, IfOk, MatchResult, refl, sym, ap, subst}
use Rattle.workspace.specs.Workspaces.{paths_of}
use Rattle.loading.specs.Modules.{any_module, build_linked}
use Rattle.evaluation.specs.Workspaces.{targets_of}
use Rattle.loader.specs.Files.{loads}
use Rattle.loader.specs.Places.{of_build}
use Rattle.loading.specs.Loads.{loads_fault}
use Rattle.loader.proofs.building.linked.Goals as goal

pub returns-in-Some : goal.returns-in-Some
returns-in-Some c =
    let e = c.args.evaluator.now in
    let w = loads e.sources e.limit in
    let run = targets_of e.sources e.limit (of_build (paths_of e.sources)) in
    let found = rw c.in-Some.is at (c.in_ok-fault.ensures.known w c.requires.modules refl) in
    ap (build_linked w run c.args.path.now c.args.read.now.tree)
    (sym (found ∙ ap (loads_fault w.globals c.args.path.now (any_module w)) c.loads.ensures))

pub returns-in-None : goal.returns-in-None
returns-in-None c =
    let e = c.args.evaluator.now in
    let w = loads e.sources e.limit in
    let run = targets_of e.sources e.limit (of_build (paths_of e.sources)) in
    let found = rw c.in-None.is at (c.in_ok-fault.ensures.known w c.requires.modules refl) in
    subst (λ m. IfOk c.run_linked.result (λ r. MatchResult r (λ d. m ≡ Ok d.targets) (λ f. m ≡ Err f)))
    (ap (λ t. build_linked w run c.args.path.now t None) c.tree.ensures
    ∙ ap (build_linked w run c.args.path.now c.args.read.now.tree)
    (found ∙ ap (loads_fault w.globals c.args.path.now (any_module w)) c.loads.ensures)) c.run_linked.ensures

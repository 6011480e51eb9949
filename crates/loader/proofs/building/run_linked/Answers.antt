use Rattle.std.proofs.Common.{◌∙◌, sym, ap}
use Rattle.workspace.specs.Workspaces.{paths_of}
use Rattle.loading.specs.Modules.{build_ended}
use Rattle.evaluation.specs.Workspaces.{targets_of}
use Rattle.loader.specs.Files.{loads}
use Rattle.loader.specs.Places.{of_build}
use Rattle.loader.proofs.Builds.{known_all}
use Rattle.loader.proofs.building.run_linked.Goals as goal

pub returns-in-Ok : goal.returns-in-Ok
returns-in-Ok c =
    let e = c.args.evaluator.now in
    let w = loads e.sources e.limit in
    let run = targets_of e.sources e.limit (of_build (paths_of e.sources)) in
    let ran = rw c.in-Ok.is at c.in_ok-targets.ensures in
    ap (λ k. build_ended w run (run k c.args.path.now c.args.number)) (sym (known_all w c.args.modules.now c.requires.modules))
    ∙ ap (build_ended w run) ran

pub returns : goal.returns
returns c =
    let e = c.args.evaluator.now in
    let w = loads e.sources e.limit in
    let run = targets_of e.sources e.limit (of_build (paths_of e.sources)) in
    let ran = rw c.in-Err.is at c.in_ok-targets.ensures in
    ap (λ k. build_ended w run (run k c.args.path.now c.args.number)) (sym (known_all w c.args.modules.now c.requires.modules))
    ∙ ap (build_ended w run) ran

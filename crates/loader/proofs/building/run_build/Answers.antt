use Rattle.std.proofs.Common.{◌∙◌, Ok, refl, sym, ap}
use Rattle.evaluation.specs.Runs.{run_build}
use Rattle.evaluation.specs.Workspaces.{linked_files}
use Rattle.loader.specs.MadeBefore.{rule_of}
use Rattle.file_places.specs.BuildPlace.{build_place}
use Rattle.rule_calls.specs.Packages.{Declared}
use Rattle.loader.specs.Places.{of_build}
use Rattle.loader.proofs.Tops.{own_file, targets_are, no_targets_are}
use Rattle.loader.proofs.building.run_build.Goals as goal

pub returns-in-Ok : goal.returns-in-Ok
returns-in-Ok g c =
    let e = c.args.evaluator.now in
    let read = linked_files e.sources in
    let known = g.K.KnownModules.known c.args.known in
    let ps = c.paths-paths.result.now in
    let top = c.in_ok-top.ensures in
    let file = c.file-file.ensures in
    let own = own_file read _ _ _ _ _ _ file.number file.names file.functions top.own in
    let h = c.in_ok-whole.ensures.means read c.linked.ensures own in
    let ran = rw c.in-Ok.is at h in
    ap (λ qs. run_build e.limit read qs (of_build qs) known c.args.path.now c.args.number) (sym c.paths-paths.ensures.value)
    ∙ targets_are e.limit read ps known (of_build ps) c.args.path.now c.args.number (build_place (rule_of ps known))
    c.file-file.result.path.now c.file-file.result.number c.in_ok-work.work refl (file.path ∙ top.path_is) (file.number ∙ top.number_is)
    c.in_ok-work.ensures c.in-Ok.whole.value ran
    ∙ ap (λ (d : Declared). Ok d.targets) (sym c.declared.ensures)

pub returns : goal.returns
returns g c =
    let e = c.args.evaluator.now in
    let read = linked_files e.sources in
    let known = g.K.KnownModules.known c.args.known in
    let ps = c.paths-paths.result.now in
    let top = c.in_ok-top.ensures in
    let file = c.file-file.ensures in
    let own = own_file read _ _ _ _ _ _ file.number file.names file.functions top.own in
    let h = c.in_ok-whole.ensures.means read c.linked.ensures own in
    let ran = rw c.in-Err.is at h in
    ap (λ qs. run_build e.limit read qs (of_build qs) known c.args.path.now c.args.number) (sym c.paths-paths.ensures.value)
    ∙ no_targets_are e.limit read ps known (of_build ps) c.args.path.now c.args.number (build_place (rule_of ps known))
    c.file-file.result.path.now c.file-file.result.number c.in_ok-work.work refl (file.path ∙ top.path_is) (file.number ∙ top.number_is)
    c.in_ok-work.ensures c.in-Err.placed ran

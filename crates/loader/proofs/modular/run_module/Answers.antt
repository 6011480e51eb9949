use Rattle.std.proofs.Common.{◌≡◌, ◌∙◌, IfOk, ap, subst}
use Rattle.evaluation.specs.Runs.{run_module}
use Rattle.evaluation.specs.Workspaces.{linked_files}
use Rattle.loader.specs.Places.{of_module}
use Rattle.loader.proofs.Tops.{own_file, module_is, module_fails}
use Rattle.loader.proofs.modular.run_module.Goals as goal

pub returns-in-Ok : goal.returns-in-Ok
returns-in-Ok g c =
    let e = c.args.evaluator.now in
    let read = linked_files e.sources in
    let known = g.K.KnownModules.known c.args.known in
    let top = c.in_ok-top.ensures in
    let file = c.file-file.ensures in
    let own = own_file read _ _ _ _ _ _ file.number file.names file.functions top.own in
    let h = c.in_ok-whole.ensures.means read c.linked.ensures own in
    let ran = rw c.in-Ok.is at h in
    subst (λ ps. IfOk c.ended.result (λ r. r ≡ run_module e.limit read ps of_module known c.args.path.now c.args.number))
    c.paths-paths.ensures.value
    (module_is e.limit read c.paths-paths.result.now known of_module c.args.path.now c.args.number c.file-file.result.path.now
    c.file-file.result.number c.new.result (file.path ∙ top.path_is) (file.number ∙ top.number_is) c.new.ensures
    c.file-file.result.names.now c.in-Ok.whole.value c.ended.result own.names_are ran c.ended.ensures)

pub returns : goal.returns
returns g c =
    let e = c.args.evaluator.now in
    let read = linked_files e.sources in
    let known = g.K.KnownModules.known c.args.known in
    let top = c.in_ok-top.ensures in
    let file = c.file-file.ensures in
    let own = own_file read _ _ _ _ _ _ file.number file.names file.functions top.own in
    let h = c.in_ok-whole.ensures.means read c.linked.ensures own in
    let ran = rw c.in-Err.is at h in
    module_fails e.limit read c.paths-paths.result.now known of_module c.args.path.now c.args.number c.file-file.result.path.now
    c.file-file.result.number c.new.result (file.path ∙ top.path_is) (file.number ∙ top.number_is) c.new.ensures
    c.in-Err.placed ran
    ∙ ap (λ ps. run_module e.limit read ps of_module known c.args.path.now c.args.number) c.paths-paths.ensures.value

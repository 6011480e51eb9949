use Rattle.std.proofs.Common.{◌∙◌, ap}
use Rattle.std.specs.Prelude.{is_some, position, bytes_eq}
use Rattle.std.specs.List.{list_any}
use Rattle.workspace.specs.Workspaces.{paths_of}
use Rattle.packages.proofs.Names.{placed_is}
use Rattle.packages.proofs.all_targets.is_file.Goals as goal

pub returns : goal.returns
returns c =
    let files = c.args.files.now.files in let path = c.in_ok-path.path in
    c.is_some.ensures ∙ ap is_some (c.number.ensures ∙ ap (λ fs. position (bytes_eq path) (paths_of fs)) c.sources.ensures) ∙ placed_is (bytes_eq path) (paths_of files)
    ∙ ap (λ q. list_any (bytes_eq q) (paths_of files)) c.in_ok-path.ensures

use Rattle.std.proofs.Common.{◌∙◌, ap}
use Rattle.workspace.specs.Files.{file_pairs}
use Rattle.workspace.specs.Workspaces.{paths_of}
use Rattle.sources.proofs.Ordered.{are_listed}
use Rattle.sources.proofs.files.Files.of.Goals as goal

pub invariant_of-result : goal.invariant_of-result
invariant_of-result c =
    are_listed c.args.workspace.now (file_pairs c.files.result.now) c.in_ok-files.files.items c.add_files.new.all.items c.sort_unstable.new.self.items c.in_ok-paths.paths.items c.count.ensures.legal c.in_ok-files.ensures.items c.in_ok-add_files.ensures
    c.files.ensures c.sort_unstable.ensures.permutation c.sort_unstable.ensures.sorted (c.in_ok-paths.ensures ∙ ap paths_of c.deref.ensures.value)

pub returns-clause-ascending : goal.returns-clause-ascending
returns-clause-ascending c = (invariant_of-result c).ascending

use Rattle.workspace.specs.Files.{file_pairs}
use Rattle.load_graph.proofs.Finding.{sorted_from}
use Rattle.load_graph.proofs.paths.Paths.of.Goals as goal

pub invariant_of-result : goal.invariant_of-result
invariant_of-result c =
    sorted_from c.args.workspace.now (file_pairs c.files.result.now) c.in_ok-paths.paths.items c.add_modules.new.paths.items c.sort_unstable.new.self.items c.count.ensures.legal c.in_ok-paths.ensures.items c.in_ok-add_modules.ensures c.files.ensures
    c.sort_unstable.ensures.permutation c.sort_unstable.ensures.sorted

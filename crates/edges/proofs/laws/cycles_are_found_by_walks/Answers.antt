use Rattle.std.proofs.Common.{length}
use Rattle.std.specs.Prelude.{nat_eq}
use Rattle.std.specs.List.{range_with_len}
use Rattle.std.specs.Cmp.{unsigned_Decides}
use Rattle.edges.specs.Rows.{row}
use Rattle.edges.proofs.Cycles.{is_cyclic_decides}
use Rattle.edges.proofs.Lists.{finite, few}
use Rattle.edges.proofs.laws.cycles_are_found_by_walks.Goals as goal

pub returns : goal.returns
returns c = λ deps n. is_cyclic_decides (row deps) nat_eq unsigned_Decides (range_with_len 0 (length deps)) (length deps) (few deps) (finite deps) n

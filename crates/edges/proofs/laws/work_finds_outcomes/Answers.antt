use Rattle.std.proofs.Common.{length, IsTrue}
use Rattle.std.specs.Prelude.{nat_eq}
use Rattle.std.specs.List.{range_with_len}
use Rattle.std.specs.Cmp.{unsigned_Decides}
use Rattle.edges.specs.Rows.{row}
use Rattle.edges.specs.Outcomes.{outcome}
use Rattle.edges.proofs.Outcomes.{outcome_keeps, found_outcomes}
use Rattle.edges.proofs.Lists.{finite, few}
use Rattle.edges.proofs.laws.work_finds_outcomes.Goals as goal

pub returns : goal.returns
returns g c = λ deps cycle step fits found is fit n.
    found_outcomes (row deps) nat_eq unsigned_Decides (range_with_len 0 (length deps)) (length deps) (few deps) (finite deps) cycle step (λ n us. IsTrue (fits n us)) found (outcome (row deps) cycle step (length deps)) is
    (outcome_keeps (row deps) nat_eq unsigned_Decides (range_with_len 0 (length deps)) (length deps) (few deps) (finite deps) cycle step) fit n

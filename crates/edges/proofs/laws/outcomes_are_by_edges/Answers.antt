use Rattle.std.proofs.Common.{length}
use Rattle.std.specs.Prelude.{nat_eq}
use Rattle.std.specs.List.{range_with_len}
use Rattle.std.specs.Cmp.{unsigned_Decides}
use Rattle.edges.specs.Rows.{row}
use Rattle.edges.specs.Outcomes.{outcome}
use Rattle.edges.proofs.Outcomes.{outcome_keeps, outcomes_alone}
use Rattle.edges.proofs.Lists.{finite, few}
use Rattle.edges.proofs.laws.outcomes_are_by_edges.Goals as goal

pub returns-clause-laws : goal.returns-clause-laws
returns-clause-laws g c = λ deps cycle step.
    outcome_keeps (row deps) nat_eq unsigned_Decides (range_with_len 0 (length deps)) (length deps) (few deps) (finite deps) cycle step

pub returns-clause-alone : goal.returns-clause-alone
returns-clause-alone g c = λ deps cycle step other is n.
    outcomes_alone (row deps) nat_eq unsigned_Decides (range_with_len 0 (length deps)) (length deps) (few deps) (finite deps) cycle step other (outcome (row deps) cycle step (length deps)) is
    (outcome_keeps (row deps) nat_eq unsigned_Decides (range_with_len 0 (length deps)) (length deps) (few deps) (finite deps) cycle step) n

use Rattle.std.proofs.Common.{◌≡◌, drop}
use Rattle.values.specs.Seeing.{slot_values}
use Rattle.visits.specs.Equal.{same_given}
use Rattle.visits.proofs.equals.have_same_fields.Given as goal

abbrev pub invariant-loop-i : goal.invariant-loop-i
invariant-loop-i l = same_given (drop l.i (slot_values l.xs)) (drop l.i (slot_values l.ys)) ≡ same_given (slot_values l.xs) (slot_values l.ys)

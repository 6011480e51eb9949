use Rattle.call_stack.proofs.Positions.{Placing}
use Rattle.call_stack.proofs.filling.fill_from_top.Given as goal

abbrev pub invariant-loop-left : goal.invariant-loop-left
invariant-loop-left l = Placing l.left l.slots l.values l.count l.fn.values

abbrev pub decreases-loop-left : goal.decreases-loop-left
decreases-loop-left l = l.left

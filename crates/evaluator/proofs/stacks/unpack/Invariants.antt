use Rattle.std.proofs.Common.{◌≡◌, ◌≤◌, ◌++◌, length, drop}
use Rattle.values.specs.Seeing.{group_items}
use Rattle.evaluator.proofs.stacks.unpack.Given as goal

abbrev pub invariant-loop-place : goal.invariant-loop-place
invariant-loop-place l = record {
  within : l.place ≤ length (group_items l.group);
  behind : l.onto ≡ drop l.place (group_items l.group) ++ l.fn.onto;
}

abbrev pub decreases-loop-place : goal.decreases-loop-place
decreases-loop-place l = l.place

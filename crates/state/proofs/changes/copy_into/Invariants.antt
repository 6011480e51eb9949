use Rattle.std.proofs.Common.{◌≡◌, ◌++◌, drop}
use Rattle.values.specs.Seeing.{group_items}
use Rattle.state.proofs.changes.copy_into.Given as goal

abbrev pub invariant-loop-place : goal.invariant-loop-place
invariant-loop-place l = l.items ++ drop l.place (group_items l.fn.group) ≡ l.initial.items ++ group_items l.fn.group

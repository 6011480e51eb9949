use Rattle.std.proofs.Common.{◌-◌, ◌≤◌, length, take}
use Rattle.edges.specs.Rows.{has}
use Rattle.edges.specs.Counting.{Counting}
use Rattle.edges.proofs.countdown.count_down.Given as goal

abbrev pub invariant-loop-at : goal.invariant-loop-at
invariant-loop-at l = record {
  counting : Counting l.deps (λ d v. has (take l.at l.order.items) d) l.order.items l.left.items;
  within : l.at ≤ length l.order.items;
}

abbrev pub decreases-loop-at : goal.decreases-loop-at
decreases-loop-at l = length l.deps - l.at

use Rattle.std.proofs.Common.{◌≡◌, ℕ, ◌++◌, List, take, get_or}
use Rattle.edges.specs.Counting.{Counting, counted}
use Rattle.edges.proofs.countdown.settle.Given as goal

abbrev pub invariant-loop-user : goal.invariant-loop-user
invariant-loop-user l = record {
  counting : Counting l.deps (counted (take l.at l.initial.order.items) (get_or l.initial.order.items l.at 0) (take l.user-index l.users)) l.order.items l.left;
  more : (more : List ℕ) × (l.order.items ≡ l.initial.order.items ++ more);
}

use Rattle.std.proofs.Common.{◌≡◌, ℕ, ◌<◌, ◌≤◌, length, take}
use Rattle.components.specs.Search.{start_of}
use Rattle.components.proofs.search.Search.join.Given as goal

abbrev pub invariant-loop-self : goal.invariant-loop-self
invariant-loop-self l = record {
  starts : l.self.starts ≡ take (length l.self.starts) l.initial.self.starts;
  fewer : length l.self.starts ≤ length l.initial.self.starts;
  gone : (g : ℕ) → length l.self.starts ≤ g → g < length l.initial.self.starts → l.place < (start_of l.initial.self.starts g).nodes;
  path : l.self.path ≡ l.initial.self.path;
  waiting : l.self.waiting ≡ l.initial.self.waiting;
  places : l.self.places ≡ l.initial.self.places;
  order : l.self.order ≡ l.initial.self.order;
}

abbrev pub decreases-loop-self : goal.decreases-loop-self
decreases-loop-self l = length l.self.starts

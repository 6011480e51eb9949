use Rattle.std.proofs.Common.{◌≡◌, length, drop}
use Rattle.components.specs.Turns.{closed_all}
use Rattle.components.proofs.search.close_all.Given as goal

abbrev pub invariant-loop-n : goal.invariant-loop-n
invariant-loop-n l = record {
  left : closed_all l.initial.nodes l.number l.initial.places ≡ closed_all (drop l.n-index l.nodes) l.number l.places;
  size : length l.places ≡ length l.initial.places;
}

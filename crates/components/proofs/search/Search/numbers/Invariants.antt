use Rattle.std.proofs.Common.{◌≡◌, map, take}
use Rattle.components.specs.Search.{number_of}
use Rattle.components.proofs.search.Search.numbers.Given as goal

abbrev pub invariant-loop-place : goal.invariant-loop-place
invariant-loop-place l = record {
  done : l.numbers.items ≡ map number_of (take l.place-index l.self.places);
}

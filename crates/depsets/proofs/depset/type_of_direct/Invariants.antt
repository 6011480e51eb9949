use Rattle.std.proofs.Common.{◌≡◌, drop}
use Rattle.depsets.specs.Elements.{goes_on, type_after, is_uniform, first_type}
use Rattle.depsets.proofs.depset.type_of_direct.Given as goal

abbrev pub invariant-loop-element : goal.invariant-loop-element
invariant-loop-element l = record {
  goes : goes_on l.known (drop l.element-index l.direct) ≡ is_uniform l.direct;
  after : type_after l.known (drop l.element-index l.direct) ≡ first_type l.direct;
}

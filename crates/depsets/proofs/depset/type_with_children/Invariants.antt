use Rattle.std.proofs.Common.{◌≡◌, drop}
use Rattle.depsets.specs.Rose.{roses}
use Rattle.depsets.specs.Elements.{goes_on, type_after, elements_of}
use Rattle.depsets.proofs.depset.type_with_children.Given as goal

abbrev pub invariant-loop-child : goal.invariant-loop-child
invariant-loop-child l = record {
  goes : goes_on l.known (elements_of (roses (drop l.child-index l.children))) ≡ goes_on l.initial.known (elements_of (roses l.children));
  after : type_after l.known (elements_of (roses (drop l.child-index l.children))) ≡ type_after l.initial.known (elements_of (roses l.children));
}

use Rattle.std.proofs.Common.{◌≡◌, drop}
use Rattle.targets.specs.Attributes.{are_attributes}
use Rattle.declaring.proofs.attributes_of_rules.are_attributes.Given as goal

abbrev pub invariant-loop-attribute : goal.invariant-loop-attribute
invariant-loop-attribute l = are_attributes (drop l.attribute-index l.named) ≡ are_attributes l.named

use Rattle.std.proofs.Common.{◌≡◌, ◌++◌, drop, map}
use Rattle.contexts.specs.Fields.{attribute_value}
use Rattle.contexts.proofs.attributes.made_values.Given as goal

abbrev pub invariant-loop-value : goal.invariant-loop-value
invariant-loop-value l =
    l.made.items ++ map (attribute_value l.dependencies) (drop l.value-index l.values) ≡ map (attribute_value l.dependencies) l.values

-- Depsets as values.
use Rattle.std.proofs.Common.{◌≡◌, Some, refl}
use Rattle.std.specs.Prelude.{option_map}
use Rattle.depsets.specs.Own.{Own}
use Rattle.depsets.specs.Rose.{Rose}
use Rattle.leaves.specs.declared.leaf.Leaf.{Leaf}
use Rattle.leaves.specs.declared.leaf.Leaf.TheVariants as plain
use Rattle.values.specs.declared.value.Value.{Value}
use Rattle.values.specs.declared.value.Value.TheVariants as value
use Rattle.operations.specs.Reading.{leaf_depset}
use Rattle.contexts.specs.Fields.{depset_value}
use Rattle.contexts.specs.Offered.{value_depset}

leaf_again : (l : Leaf) (d : Rose Own) → leaf_depset l ≡ Some d → Some (value.Leaf l) ≡ option_map depset_value (leaf_depset l)
leaf_again (plain.Depset d) e h = refl
leaf_again plain.None d h = absurd (cc)
leaf_again (plain.Label t) d h = absurd (cc)
leaf_again (plain.File f) d h = absurd (cc)
leaf_again (plain.Function f) d h = absurd (cc)
leaf_again (plain.BuiltIn b) d h = absurd (cc)
leaf_again (plain.Provider p) d h = absurd (cc)
leaf_again (plain.Rule r) d h = absurd (cc)
leaf_again (plain.Attribute a) d h = absurd (cc)
leaf_again (plain.Target n) d h = absurd (cc)
leaf_again (plain.Object o) d h = absurd (cc)

-- a value that is a depset is that depset as a value
pub depset_again : (v : Value) (d : Rose Own) → value_depset v ≡ Some d → Some v ≡ option_map depset_value (value_depset v)
depset_again (value.Leaf l) d h = leaf_again l d h
depset_again (value.Key k) d h = absurd (cc)
depset_again (value.Cell n) d h = absurd (cc)
depset_again (value.Frozen b) d h = absurd (cc)

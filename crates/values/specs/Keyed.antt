-- Whether entries have a key, and that keys are distinct.
use Rattle.std.specs.Prelude.{Bool, List, is_some}
use Rattle.std.specs.List.{IsDistinct}
use Rattle.std.specs.Map.{lookup}
use Rattle.leaves.specs.Leaves.{same_key}
use Rattle.keys.specs.declared.key.Key.{Key}
use Rattle.values.specs.declared.value.Value.{Value}

-- whether a dict with these entries has the key (Starlark's specification, "Dictionaries")
abbrev pub has_key : List (Key × Value) → Key → Bool
has_key es k = is_some (lookup (same_key k) es)

-- no two keys are the same
abbrev pub AreDistinct : List Key → Type 0
AreDistinct ks = IsDistinct same_key ks

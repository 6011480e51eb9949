-- The keys of entries from a place on.
use Rattle.std.proofs.Common.{◌≡◌, ℕ, zero, suc, ◌+◌, List, [], ◌∷◌, map, drop, slice_get, Option, Some, None, ap}
use Rattle.values.specs.Visits.{keys_of}
use Rattle.keys.specs.declared.key.Key.{Key}
use Rattle.values.specs.declared.value.Value.{Value}
use Rattle.values.specs.declared.value.Value.TheVariants as value
use Rattle.depsets.proofs.Turns.{drop_at}

abbrev first_key : Option (Key × Value) → Option Value
first_key (Some f) = Some (value.Key f.0)
first_key None = None

key_there : (es : List (Key × Value)) (i : ℕ) (k : Key) (v : Value) → slice_get es i ≡ Some (k, v) → slice_get (map value.Key (keys_of es)) i ≡ Some (value.Key k)
key_there [] i k v p = absurd (cc)
key_there (e ∷ es) zero k v p = ap first_key p
key_there (e ∷ es) (suc i) k v p = key_there es i k v p

-- the key at a place, and those behind it
pub key_left : (es : List (Key × Value)) (i : ℕ) (k : Key) (v : Value) → slice_get es i ≡ Some (k, v) →
    drop i (map value.Key (keys_of es)) ≡ value.Key k ∷ drop (i + 1) (map value.Key (keys_of es))
key_left es i k v p = drop_at (map value.Key (keys_of es)) i (value.Key k) (key_there es i k v p)

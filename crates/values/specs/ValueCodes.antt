-- Codes of values, items, fields and entries. (This project's own.)
use Rattle.std.specs.Prelude.{◌≡◌, ℕ, List, Option, ◌⊎◌, refl}
use Rattle.std.specs.Coded.{Coded, coded×, coded⊎, coded_ℕ, coded_list, coded_option, code_by}
use Rattle.std.proofs.Common.{inl, inr}
use Rattle.values.specs.Tree.{coded_branch}
use Rattle.values.specs.View.{FrozenBranch}
use Rattle.leaves.specs.LeafCodes.{leaf_code, key_code, provider_code}
use Rattle.leaves.specs.declared.leaf.Leaf.{Leaf as Plain}
use Rattle.keys.specs.declared.key.Key.{Key as Index}
use Rattle.values.specs.declared.value.Value.{Value}
use Rattle.values.specs.declared.value.Value.TheVariants.{Key, Leaf, Cell, Frozen}

-- a value as one of a sum: a key, a leaf, the number of a cell, or a frozen value with parts
abbrev pub split : Value → Index ⊎ (Plain ⊎ (ℕ ⊎ FrozenBranch))
split (Key k) = inl k
split (Leaf l) = inr (inl l)
split (Cell n) = inr (inr (inl n))
split (Frozen b) = inr (inr (inr b))

-- the value that stands in such a sum
abbrev pub join : Index ⊎ (Plain ⊎ (ℕ ⊎ FrozenBranch)) → Value
join (inl k) = Key k
join (inr (inl l)) = Leaf l
join (inr (inr (inl n))) = Cell n
join (inr (inr (inr b))) = Frozen b

-- no two values have the same place in the sum: each comes back from its own
pub join-split : (v : Value) → join (split v) ≡ v
join-split (Key k) = refl
join-split (Leaf l) = refl
join-split (Cell n) = refl
join-split (Frozen b) = refl

-- A code of values: two values with the same code are the same.
abbrev pub value_code : Coded Value
value_code =
    code_by (Index ⊎ (Plain ⊎ (ℕ ⊎ FrozenBranch)))
    (coded⊎ key_code
    (coded⊎ leaf_code (coded⊎ coded_ℕ (coded_branch leaf_code key_code provider_code))))
    split join join-split

-- a code of the items of a list or a tuple
abbrev pub items_code : Coded (List Value)
items_code = coded_list value_code

-- a code of the fields of an instance, of which some may be missing
abbrev pub fields_code : Coded (List (Option Value))
fields_code = coded_list (coded_option value_code)

-- a code of the entries of a dict, in their order
abbrev pub entries_code : Coded (List (Index × Value))
entries_code = coded_list (coded× key_code value_code)

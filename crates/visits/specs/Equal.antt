-- Equality of values (Starlark's specification, "Comparisons"; that two values of some types can't
-- be compared, ticks and depth are this project's own), by recursion on the levels that are left.
use Rattle.std.specs.Prelude.{ℕ, zero, suc, Bool, true, false, ◌&&◌, List, [], ◌∷◌, length, Option}
use Rattle.std.specs.Prelude.{Some, None, Result, Ok, Err, if◌then◌else◌, nat_eq}
use Rattle.std.specs.Map.{lookup}
use Rattle.std.specs.Str.{bytes_eq}
use Rattle.depsets.specs.Elements.{same_truth}
use Rattle.leaves.specs.Leaves.{same_key, same_function, same_provider, same_rule}
use Rattle.ticks.specs.Ticking.{Count, Ticking, after_tick, then_on, with_count, entered}
use Rattle.values.specs.Shape.{Shape, key, atom, items, entries, fields, shape}
use Rattle.leaves.specs.declared.leaf.Leaf.{Leaf}
use Rattle.leaves.specs.declared.leaf.Leaf.TheVariants as plain
use Rattle.leaves.specs.declared.leaf.Object.{Object}
use Rattle.leaves.specs.declared.leaf.Object.TheVariants as object
use Rattle.keys.specs.declared.key.Key.{Key}
use Rattle.values.specs.declared.value.Value.{Value}
use Rattle.values.specs.declared.cells.Cell.{Cell}
use Rattle.ticks.specs.declared.ticks.Kind.{Kind}
use Rattle.ticks.specs.declared.ticks.Kind.TheVariants.{Wrong, Deep}

-- whether two of the language's own objects (the `attr` module, `ctx` and what stands in it) are of
-- one type: such a pair can't be compared
abbrev pub same_object : Object → Object → Bool
same_object object.Attr object.Attr = true
same_object object.Context object.Context = true
same_object object.ContextAttr object.ContextAttr = true
same_object object.ContextFiles object.ContextFiles = true
same_object object.ContextActions object.ContextActions = true
same_object _ _ = false

-- Leaves of different types are unequal. Labels are compared by text, Files by path and owner,
-- functions, providers and rules by the numbers that tell them apart; two of another type can't be
-- compared.
abbrev pub leaf_equal : Leaf → Leaf → Result Bool Kind
leaf_equal plain.None plain.None = Ok true
leaf_equal (plain.Label x) (plain.Label y) = Ok (bytes_eq x y)
leaf_equal (plain.File x) (plain.File y) = Ok (bytes_eq x.path y.path && bytes_eq x.owner y.owner)
leaf_equal (plain.Function x) (plain.Function y) = Ok (same_function x y)
leaf_equal (plain.Provider x) (plain.Provider y) = Ok (same_provider x y)
leaf_equal (plain.Rule x) (plain.Rule y) = Ok (same_rule x y)
leaf_equal (plain.Depset x) (plain.Depset y) = Err Wrong
leaf_equal (plain.BuiltIn x) (plain.BuiltIn y) = Err Wrong
leaf_equal (plain.Attribute x) (plain.Attribute y) = Err Wrong
leaf_equal (plain.Target x) (plain.Target y) = Err Wrong
leaf_equal (plain.Object x) (plain.Object y) = if same_object x y then Err Wrong else Ok false
leaf_equal _ _ = Ok false

-- pair by pair until a pair differs; what has no partner in the other list isn't looked at
abbrev pub pairs_equal : {X : Type 0} → (X → X → Count → Ticking Bool) → List X → List X → Count
    → Ticking Bool
pairs_equal eq [] ys c = Ok (true, c)
pairs_equal eq (x ∷ xs) [] c = Ok (true, c)
pairs_equal eq (x ∷ xs) (y ∷ ys) c =
    then_on (eq x y c) (λ b d. if b then pairs_equal eq xs ys d else Ok (false, d))

-- lists and tuples: by length, and then pair by pair
abbrev pub items_equal : (Value → Value → Count → Ticking Bool) → List Value → List Value → Count
    → Ticking Bool
items_equal eq xs ys c =
    if nat_eq (length xs) (length ys) then pairs_equal eq xs ys c else Ok (false, c)

-- a value and that of its key on the right, if the key is there
abbrev pub found_equal : (Value → Value → Count → Ticking Bool) → Value → Option Value → Count
    → Ticking Bool
found_equal eq x None c = Ok (false, c)
found_equal eq x (Some y) c = eq x y c

-- for each entry of the left in its order the right's value of that key, until a pair differs
abbrev pub matches_equal : (Value → Value → Count → Ticking Bool) → List (Key × Value)
    → List (Key × Value) → Count → Ticking Bool
matches_equal eq [] fs c = Ok (true, c)
matches_equal eq (e ∷ es) fs c =
    then_on (found_equal eq e.1 (lookup (same_key e.0) fs) c)
    (λ b d. if b then matches_equal eq es fs d else Ok (false, d))

-- dicts: by length, and then by the left's entries; the right's order doesn't count
abbrev pub entries_equal : (Value → Value → Count → Ticking Bool) → List (Key × Value)
    → List (Key × Value) → Count → Ticking Bool
entries_equal eq es fs c =
    if nat_eq (length es) (length fs) then matches_equal eq es fs c else Ok (false, c)

-- the same fields were given
abbrev pub same_given : List (Option Value) → List (Option Value) → Bool
same_given [] [] = true
same_given (None ∷ xs) (None ∷ ys) = same_given xs ys
same_given (Some x ∷ xs) (Some y ∷ ys) = same_given xs ys
same_given _ _ = false

-- the values of a field that was given in both
abbrev pub slot_equal : (Value → Value → Count → Ticking Bool) → Option Value → Option Value
    → Count → Ticking Bool
slot_equal eq (Some x) (Some y) c = eq x y c
slot_equal eq _ _ c = Ok (true, c)

-- instances of one provider: the same fields were given, and then field by field in the provider's
-- order
abbrev pub fields_equal : (Value → Value → Count → Ticking Bool) → List (Option Value)
    → List (Option Value) → Count → Ticking Bool
fields_equal eq xs ys c =
    if same_given xs ys then pairs_equal (slot_equal eq) xs ys c else Ok (false, c)

-- Two values by what they show: of different types they are unequal; of one type that type decides,
-- and their parts are compared by eq.
abbrev pub compared : (Value → Value → Count → Ticking Bool) → Shape → Shape → Count → Ticking Bool
compared eq (key j) (key k) c = Ok (same_key j k, c)
compared eq (atom l) (atom m) c = with_count (leaf_equal l m) c
compared eq (items j xs) (items k ys) c =
    if same_truth j k then items_equal eq xs ys c else Ok (false, c)
compared eq (entries es) (entries fs) c = entries_equal eq es fs c
compared eq (fields p xs) (fields q ys) c =
    if same_provider p q then fields_equal eq xs ys c else Ok (false, c)
compared eq _ _ c = Ok (false, c)

-- A pair is one tick; then it is `deep` where no level is left; then the types decide.
unfoldable pub equal_at : ℕ → List Cell → Value → Value → Count → Ticking Bool
equal_at zero h a b c = after_tick (entered zero c) (λ d. Err Deep)
equal_at (suc n) h a b c =
    after_tick (entered (suc n) c) (λ d. compared (equal_at n h) (shape h a) (shape h b) d)

-- Worked calls on strings, membership, and methods with their arguments, by computation.
use Rattle.std.specs.Prelude.{◌≡◌, pos, List, [], ◌∷◌, Ok, Err, refl, codes, true, false}
use Rattle.values.specs.Tree.{list, none as no_trees}
use Rattle.leaves.specs.declared.leaf.Leaf.TheVariants as plain
use Rattle.leaves.specs.declared.leaf.BuiltIn.TheVariants as built_in
use Rattle.keys.specs.declared.key.Key.TheVariants as index
use Rattle.values.specs.declared.value.Value.{Value}
use Rattle.values.specs.declared.value.Value.TheVariants as value
use Rattle.values.specs.declared.cells.Cell.{Cell}
use Rattle.values.specs.declared.cells.Cell.TheVariants as cell
use Rattle.ticks.specs.declared.ticks.Kind.TheVariants as kind
use Rattle.visits.specs.Equal.{equal_at}
use Rattle.operations.specs.declared.method.Method.TheVariants as method
use Rattle.operations.specs.Making.{truth, number, text}
use Rattle.operations.specs.Arguments.{Given}
use Rattle.operations.specs.Strings.{member, split, join, starts_with, ends_with}
use Rattle.operations.specs.Calls.{method_call}
use Rattle.operations.proofs.Rows.{with_cells, one, two, list_at}

abbrev at : List Value → Given
at vs = record { items = vs; names = []; values = [] }

-- `2 in [1, 2, 3]` compares two pairs; with one tick left it is `steps`
two_pairs : member two list_at (with_cells (cell.List (one ∷ two ∷ number (pos 3) ∷ []) 0 ∷ []) 0)
    ≡ Ok (true, with_cells (cell.List (one ∷ two ∷ number (pos 3) ∷ []) 0 ∷ []) 2)
unfolding equal_at
two_pairs = refl

no_tick_left : member two list_at (with_cells (cell.List (one ∷ two ∷ []) 0 ∷ []) 5) ≡ Err kind.Steps
unfolding equal_at
no_tick_left = refl

-- the item is the left side: `len in [1, len]` compares `1 == len` first, and `len == len` is `type`
built_in_member : member (value.Leaf (plain.BuiltIn built_in.Len)) list_at (with_cells (cell.List (one ∷ value.Leaf (plain.BuiltIn built_in.Len) ∷ []) 0 ∷ []) 0)
    ≡ Err kind.Wrong
unfolding equal_at
built_in_member = refl

-- `"b" in "abc"`, `1 in "1"`, `[] in {}`, `1 in {1: 2}`, `1 in 1`
part : member (text (codes "b")) (text (codes "abc")) (with_cells [] 0) ≡ Ok (true, with_cells [] 0)
part = refl

no_part : member one (text (codes "1")) (with_cells [] 0) ≡ Err kind.Wrong
no_part = refl

no_key : member list_at (value.Cell 1) (with_cells (cell.List [] 0 ∷ cell.Dict [] 0 ∷ []) 0) ≡ Err kind.Wrong
no_key = refl

key_there : member one list_at (with_cells (cell.Dict ((index.Number (pos 1), two) ∷ []) 0 ∷ []) 0)
    ≡ Ok (true, with_cells (cell.Dict ((index.Number (pos 1), two) ∷ []) 0 ∷ []) 0)
key_there = refl

no_members : member one one (with_cells [] 0) ≡ Err kind.Wrong
no_members = refl

-- "a,,b".split(","), "a".split(""), "a".split(1)
parts : split (codes "a,,b") (text (codes ",")) (with_cells [] 0)
    ≡ Ok (list_at, with_cells (cell.List (text (codes "a") ∷ text [] ∷ text (codes "b") ∷ []) 0 ∷ []) 0)
parts = refl

no_separator : split (codes "a") (text []) (with_cells [] 0) ≡ Err kind.Wrong
no_separator = refl

-- "-".join(["a", "b"]), "-".join([1]), "-".join("ab")
joined : join (codes "-") list_at (with_cells (cell.List (text (codes "a") ∷ text (codes "b") ∷ []) 0 ∷ []) 0)
    ≡ Ok (text (codes "a-b"), with_cells (cell.List (text (codes "a") ∷ text (codes "b") ∷ []) 0 ∷ []) 0)
joined = refl

no_text : join (codes "-") list_at (with_cells (cell.List (one ∷ []) 0 ∷ []) 0) ≡ Err kind.Wrong
no_text = refl

no_sequence : join (codes "-") (text (codes "ab")) (with_cells [] 0) ≡ Err kind.Wrong
no_sequence = refl

-- "abc".startswith("ab"), "abc".endswith("ab"), "abc".startswith(("a",))
front : starts_with (codes "abc") (text (codes "ab")) (with_cells [] 0) ≡ Ok (truth true, with_cells [] 0)
front = refl

back : ends_with (codes "abc") (text (codes "ab")) (with_cells [] 0) ≡ Ok (truth false, with_cells [] 0)
back = refl

no_front : starts_with (codes "abc") list_at (with_cells (cell.Tuple (text (codes "a") ∷ []) ∷ []) 0) ≡ Err kind.Wrong
no_front = refl

-- `append` of a frozen list without an argument is `arity`, and so is a name
arity_before_frozen : method_call method.Append (value.Frozen (list no_trees)) (at []) (with_cells [] 0) ≡ Err kind.Arity
arity_before_frozen = refl

no_names : method_call method.Append list_at (record { items = []; names = codes "x" ∷ []; values = one ∷ [] }) (with_cells (cell.List [] 0 ∷ []) 0)
    ≡ Err kind.Arity
no_names = refl

two_separators : method_call method.Split (text (codes "a")) (at (one ∷ two ∷ [])) (with_cells [] 0) ≡ Err kind.Arity
two_separators = refl

-- Lists of strings (Bazel documentation, `attr.string_list`; docs/PROFILE.md, "Attributes").
use Rattle.std.specs.Prelude.{ℕ, List, [], map, Option, option_map}
use Rattle.values.specs.Shape.{Shape, shape}
use Rattle.values.specs.Tree.{key, branch, list, trees, tree_list}
use Rattle.values.specs.View.{FrozenTree, FrozenBranch}
use Rattle.values.specs.declared.cells.Cell.{Cell}
use Rattle.keys.specs.Texts.{key_text}
use Rattle.keys.specs.declared.key.Key.TheVariants as index
use Rattle.values.specs.declared.value.Value.{Value}
use Rattle.operations.specs.Reading.{string_in}

-- ---- the frozen list

-- a string as a frozen value
abbrev pub text_tree : List ℕ → FrozenTree
text_tree t = key (index.Text t)

-- the frozen list of strings, in their order
abbrev pub list_of_texts : List (List ℕ) → FrozenBranch
list_of_texts ts = list (trees (map text_tree ts))

-- ---- reading one

-- the bytes of a frozen string
abbrev pub tree_text : FrozenTree → List ℕ
tree_text (key k) = key_text k
tree_text _ = []

-- the strings of a frozen list
abbrev pub texts_in : FrozenTree → List (List ℕ)
texts_in (branch (list ts)) = map tree_text (tree_list ts)
texts_in _ = []

-- the string that is shown, as a frozen value
abbrev pub text_seen : Shape → Option FrozenTree
text_seen s = option_map text_tree (string_in s)

-- the string that a value is, by the cells of the heap, as a frozen value
abbrev pub text_frozen : List Cell → Value → Option FrozenTree
text_frozen h v = text_seen (shape h v)

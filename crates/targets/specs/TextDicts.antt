-- Dicts of strings (Bazel documentation, `attr.string_dict`; docs/PROFILE.md, "Attributes").
use Rattle.std.specs.Prelude.{ℕ, List, [], map, Option, Some, None, option_map, option_and_then}
use Rattle.values.specs.Keyed.{AreDistinct}
use Rattle.values.specs.Shape.{Shape, shape}
use Rattle.values.specs.Tree.{branch, dict, pairs, pair_list}
use Rattle.values.specs.View.{FrozenTree, FrozenBranch}
use Rattle.values.specs.declared.cells.Cell.{Cell}
use Rattle.keys.specs.Texts.{key_text}
use Rattle.keys.specs.declared.key.Key.{Key}
use Rattle.keys.specs.declared.key.Key.TheVariants as index
use Rattle.values.specs.declared.value.Value.{Value}
use Rattle.operations.specs.Reading.{string_in}
use Rattle.targets.specs.TextLists.{text_tree, tree_text, text_seen}
use Rattle.targets.specs.declared.text_dict.TextEntry.{TextEntry}

-- ---- reading one

-- the string that a key is
abbrev pub text_key : Key → Option (List ℕ)
text_key (index.Text t) = Some t
text_key _ = None

-- an entry of these two strings
abbrev pub entry_of : List ℕ → List ℕ → TextEntry
entry_of k t = record { key = k; value = t }

-- an entry whose key is a string, and whose value shows one
abbrev pub text_shown : Key → Shape → Option TextEntry
text_shown k s = option_and_then (λ x. option_map (entry_of x) (string_in s)) (text_key k)

-- an entry of a dict, by the cells of the heap
abbrev pub text_entry : List Cell → Key × Value → Option TextEntry
text_entry h e = text_shown e.0 (shape h e.1)

-- ---- the frozen dict

-- the key of an entry as one of the frozen dict
abbrev pub entry_key : TextEntry → Key
entry_key e = index.Text e.key

-- the value of an entry as a frozen value
abbrev pub entry_tree : TextEntry → FrozenTree
entry_tree e = text_tree e.value

-- no two entries have one key
abbrev pub AreEntries : List TextEntry → Type 0
AreEntries es = AreDistinct (map entry_key es)

-- the frozen dict of entries, in their order
abbrev pub dict_of_texts : List TextEntry → FrozenBranch
dict_of_texts es = dict (pairs (map entry_key es) (map entry_tree es))

-- the strings that a frozen entry has
abbrev pub pair_entry : Key × FrozenTree → TextEntry
pair_entry p = entry_of (key_text p.0) (tree_text p.1)

-- the entries of a frozen dict
abbrev pub text_entries_in : FrozenTree → List TextEntry
text_entries_in (branch (dict ps)) = map pair_entry (pair_list ps)
text_entries_in _ = []

-- the frozen value of an entry whose key is a string, and whose value shows one
abbrev pub value_shown : Key → Shape → Option FrozenTree
value_shown (index.Text k) s = text_seen s
value_shown _ s = None

-- that of an entry of a dict, by the cells of the heap
abbrev pub value_frozen : List Cell → Key × Value → Option FrozenTree
value_frozen h e = value_shown e.0 (shape h e.1)

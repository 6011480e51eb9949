-- Which values count as true. (Starlark's specification, "Booleans"; of a depset this project's
-- own.)
use Rattle.std.specs.Prelude.{Bool, true, false, not, List, [], ◌∷◌, pos}
use Rattle.std.specs.Ordering.{int_eq}
use Rattle.depsets.specs.Elements.{elements}
use Rattle.values.specs.Shape.{Shape, key, atom, items, entries, fields, nothing, shape}
use Rattle.leaves.specs.declared.leaf.Leaf.{Leaf}
use Rattle.leaves.specs.declared.leaf.Leaf.TheVariants as plain
use Rattle.keys.specs.declared.key.Key.{Key}
use Rattle.keys.specs.declared.key.Key.TheVariants as index
use Rattle.values.specs.declared.value.Value.{Value}
use Rattle.operations.specs.declared.state.State.{State}

-- whether there is anything in it
abbrev pub has_some : {A : Type 0} → List A → Bool
has_some [] = false
has_some (x ∷ xs) = true

-- whether a string, a number or a bool counts as true
abbrev pub key_truth : Key → Bool
key_truth (index.Text t) = has_some t
key_truth (index.Number n) = not (int_eq n (pos 0))
key_truth (index.Truth b) = b

-- a depset without an element, at it or below it, is empty
abbrev pub leaf_truth : Leaf → Bool
leaf_truth plain.None = false
leaf_truth (plain.Depset d) = has_some (elements d)
leaf_truth _ = true

-- false are None, False, 0, `""`, and an empty list, tuple, dict or depset
abbrev pub shape_truth : Shape → Bool
shape_truth (key k) = key_truth k
shape_truth (atom l) = leaf_truth l
shape_truth (items j xs) = has_some xs
shape_truth (entries es) = has_some es
shape_truth (fields p xs) = true
shape_truth nothing = true

-- whether a value counts as true, in `if`, `not`, `and` and `or`
abbrev pub truth_of : State → Value → Bool
truth_of s v = shape_truth (shape s.heap v)

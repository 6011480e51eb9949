-- Rows by computation.
use Rattle.std.specs.Prelude.{◌≡◌, [], ◌∷◌, pos, codes, refl}
use Rattle.depsets.specs.Flat.{nodes}
use Rattle.depsets.specs.declared.depset.Order.TheVariants.{Default}
use Rattle.depsets.specs.declared.element.Element.TheVariants as element
use Rattle.values.specs.Tree.{leaf, branch, list, more, none}
use Rattle.values.specs.declared.cells.Cell.TheVariants as cell
use Rattle.keys.specs.declared.key.Key.TheVariants as key
use Rattle.leaves.specs.declared.leaf.Leaf.TheVariants as plain
use Rattle.values.specs.declared.value.Value.TheVariants as value
use Rattle.one_tree.specs.Found.{Set, in_tree, in_heap, together}
use Rattle.one_tree.specs.Sets.{next}

-- s = depset(["s"]), and above it l = depset(["l"], transitive = [s])
abbrev s : Set
s = next (codes "a/f.bzl") 0 Default (element.Text (codes "s") ∷ []) []

abbrev l : Set
l = next (codes "a/f.bzl") 1 Default (element.Text (codes "l") ∷ []) (s ∷ [])

-- a depset has itself and what is below it
below_first : nodes l ≡ s ∷ l ∷ []
below_first = refl

-- in a frozen list of both, the one below stands twice
in_a_list : in_tree (branch (list (more (leaf (plain.Depset s)) (more (leaf (plain.Depset l)) none)))) ≡ s ∷ s ∷ l ∷ []
in_a_list = refl

-- x = [s], and y = x: the list is in the heap, and its names have nothing
in_a_heap : together (cell.List (value.Leaf (plain.Depset s) ∷ []) 0 ∷ []) (value.Cell 0 ∷ value.Cell 0 ∷ []) ≡ s ∷ []
in_a_heap = refl

-- {1: l}
in_a_dict : in_heap (cell.Dict ((key.Number (pos 1), value.Leaf (plain.Depset l)) ∷ []) 0 ∷ []) ≡ s ∷ l ∷ []
in_a_dict = refl

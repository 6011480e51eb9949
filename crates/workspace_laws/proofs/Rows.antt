-- Rows by computation: what the two listings say where an id has two trees, and where it has one.
use Rattle.std.specs.Prelude.{◌≡◌, ℕ, List, [], ◌∷◌, codes, refl}
use Rattle.depsets.specs.Listed.{walked, flat}
use Rattle.depsets.specs.declared.depset.Order.TheVariants.{Default}
use Rattle.depsets.specs.declared.element.Element.TheVariants as element
use Rattle.actions.specs.declared.action.Inputs.TheVariants as inputs
use Rattle.one_tree.specs.Found.{Set}
use Rattle.one_tree.specs.Sets.{next}
use Rattle.claims.specs.Same.{input_paths}

-- depset([a]), with the first serial of a target
abbrev of_file : List ℕ → Set
of_file path = next (codes "//p:t") 0 Default (element.File (record { path = path; owner = codes "//p:t" }) ∷ []) []

-- depset([], transitive = [x, y, x])
abbrev above : Set → Set → Set
above x y = next (codes "//p:t") 1 Default [] (x ∷ y ∷ x ∷ [])

-- of two that have one id, the second is passed over
two_trees : input_paths walked (inputs.Depset (above (of_file (codes "p/a")) (of_file (codes "p/b")))) ≡ codes "p/a" ∷ []
two_trees = refl

two_trees_plain : input_paths flat (inputs.Depset (above (of_file (codes "p/a")) (of_file (codes "p/b")))) ≡ codes "p/a" ∷ codes "p/b" ∷ []
two_trees_plain = refl

-- one that stands there more than once is listed once either way
one_tree : input_paths walked (inputs.Depset (above (of_file (codes "p/a")) (of_file (codes "p/a")))) ≡ codes "p/a" ∷ []
one_tree = refl

one_tree_plain : input_paths flat (inputs.Depset (above (of_file (codes "p/a")) (of_file (codes "p/a")))) ≡ codes "p/a" ∷ []
one_tree_plain = refl

-- The strings that are read of a list are those of the frozen list that is made of them.
use Rattle.std.proofs.Common.{◌≡◌, ℕ, List, [], ◌∷◌, Option, Some, None, map, refl, sym, ap, ◌∙◌}
use Rattle.values.specs.Shape.{shape}
use Rattle.values.specs.Tree.{branch, list, trees, tree_list}
use Rattle.values.specs.View.{FrozenTree}
use Rattle.values.specs.declared.cells.Cell.{Cell}
use Rattle.values.specs.declared.value.Value.{Value}
use Rattle.operations.specs.Reading.{string_in}
use Rattle.targets.specs.RuleCalls.{each_of}
use Rattle.targets.specs.TextLists.{text_tree, tree_text, texts_in, text_frozen, list_of_texts}
use Rattle.targets.proofs.EachMade.{found, none_made, are_found, made_of_found}

-- the strings of frozen strings
texts_back : (ts : List (List ℕ)) → map tree_text (map text_tree ts) ≡ ts
texts_back [] = refl
texts_back (t ∷ ts) = ap (λ us. t ∷ us) (texts_back ts)

-- the items of a frozen list
items_back : (ts : List FrozenTree) → tree_list (trees ts) ≡ ts
items_back [] = refl
items_back (t ∷ ts) = ap (λ us. t ∷ us) (items_back ts)

-- those of a list of frozen items
pub texts_of_list : (t : FrozenTree) (ts : List FrozenTree) → t ≡ branch (list (trees ts)) → texts_in t ≡ map tree_text ts
texts_of_list t ts e = ap texts_in e ∙ ap (map tree_text) (items_back ts)

-- a frozen list of strings is that of its strings
pub is_of_its_texts : (t : FrozenTree) (ts : List FrozenTree) → t ≡ branch (list (trees ts)) → ts ≡ map text_tree (map tree_text ts)
    → t ≡ branch (list_of_texts (texts_in t))
is_of_its_texts t ts e all =
    e ∙ ap (λ us. branch (list (trees us))) all ∙ ap (λ us. branch (list_of_texts us)) (sym (texts_of_list t ts e))

module _ (h : List Cell) (xs : List Value) where
  abbrev text_at : Value → Option (List ℕ)
  text_at v = string_in (shape h v)

  pub no_texts : each_of (text_frozen h) xs ≡ None → each_of (λ v. string_in (shape h v)) xs ≡ None
  no_texts = none_made text_at text_tree (text_frozen h) (λ v. refl) xs

  module _ (ts : List FrozenTree) (e : each_of (text_frozen h) xs ≡ Some ts) where
    made : ts ≡ map text_tree (found (each_of text_at xs))
    made = made_of_found text_at text_tree (text_frozen h) (λ v. refl) xs ts e

    texts : map tree_text ts ≡ found (each_of text_at xs)
    texts = ap (map tree_text) made ∙ texts_back (found (each_of text_at xs))

    pub are_texts : ts ≡ map text_tree (map tree_text ts)
    are_texts = made ∙ ap (map text_tree) (sym texts)

    pub texts_read : Some (map tree_text ts) ≡ each_of (λ v. string_in (shape h v)) xs
    texts_read = ap Some texts ∙ sym (are_found text_at text_tree (text_frozen h) (λ v. refl) xs ts e)

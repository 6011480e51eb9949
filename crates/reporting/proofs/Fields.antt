-- The fields of an instance, one after the other.
use Rattle.std.proofs.Common.{◌≡◌, ◌⊎◌, inl, inr, ℕ, List, [], ◌∷◌, ◌++◌, Option, Some, None, refl, ap, sym, ◌∙◌, append_assoc}
use Rattle.depsets.specs.Rose.{Rose}
use Rattle.depsets.specs.Own.{Own}
use Rattle.depsets.specs.declared.element.Element.{Element}
use Rattle.values.specs.Tree.{slots, end}
use Rattle.values.specs.View.{FrozenTree}
use Rattle.reporting.specs.Lines.{field_text, fields_text}

module _ (listing : Rose Own → List Element) where
  one_more : (x : List ℕ) (xs : List (List ℕ)) (o : Option FrozenTree) (os : List (Option FrozenTree))
      → fields_text listing (x ∷ xs) (slots (o ∷ os)) ≡ field_text listing x o ++ fields_text listing xs (slots os)
  one_more x xs None os = refl
  one_more x xs (Some t) os = refl

  none_left : (names : List (List ℕ)) → fields_text listing names end ≡ []
  none_left [] = refl
  none_left (x ∷ xs) = refl

  -- a field, and those behind it
  pub field_next : (names xs : List (List ℕ)) (fields os : List (Option FrozenTree)) (x : List ℕ) (o : Option FrozenTree) (out then : List ℕ)
      → names ≡ x ∷ xs → fields ≡ o ∷ os → then ≡ out ++ field_text listing x o
      → then ++ fields_text listing xs (slots os) ≡ out ++ fields_text listing names (slots fields)
  field_next names xs fields os x o out then p q e =
      let rest = fields_text listing xs (slots os) in
      ap (λ l. l ++ rest) e ∙ append_assoc out (field_text listing x o) rest
      ∙ ap (λ l. out ++ l) (sym (one_more x xs o os) ∙ λ j. fields_text listing (sym p j) (slots (sym q j)))

  -- where the names or the fields end there are none
  pub fields_end : (names : List (List ℕ)) (os : List (Option FrozenTree)) → (names ≡ []) ⊎ (os ≡ []) → fields_text listing names (slots os) ≡ []
  fields_end names os (inl e) = ap (λ ns. fields_text listing ns (slots os)) e
  fields_end names os (inr e) = ap (λ xs. fields_text listing names (slots xs)) e ∙ none_left names

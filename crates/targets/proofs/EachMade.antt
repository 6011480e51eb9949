-- Each of a list read as what is asked, and something made of it.
use Rattle.std.proofs.Common.{◌≡◌, List, [], ◌∷◌, Option, Some, None, map, refl, sym, ◌∙◌}
use Rattle.std.specs.Prelude.{option_map, option_and_then}
use Rattle.targets.specs.RuleCalls.{each_of}

-- those that were found
abbrev pub found : {B : Type 0} → Option (List B) → List B
found None = []
found (Some ys) = ys

module _ {A B C : Type 0} (f : A → Option B) (g : B → C) (k : A → Option C) (same : (x : A) → k x ≡ option_map g (f x)) where
  both : (o : Option B) (os : Option (List B)) → option_and_then (λ z. option_map (λ zs. z ∷ zs) (option_map (map g) os)) (option_map g o)
      ≡ option_map (map g) (option_and_then (λ y. option_map (λ ys. y ∷ ys) os) o)
  both None os = refl
  both (Some y) None = refl
  both (Some y) (Some ys) = refl

  each_made : (xs : List A) → each_of k xs ≡ option_map (map g) (each_of f xs)
  each_made [] = refl
  each_made (x ∷ xs) =
      (λ j. option_and_then (λ z. option_map (λ zs. z ∷ zs) (each_made xs j)) (same x j)) ∙ both (f x) (each_of f xs)

  pub none_made : (xs : List A) → each_of k xs ≡ None → each_of f xs ≡ None
  none_made xs e = none (each_of f xs) (sym (each_made xs) ∙ e)
    where
      none : (o : Option (List B)) → option_map (map g) o ≡ None → o ≡ None
      none None h = refl
      none (Some ys) h = absurd (cc)

  pub are_found : (xs : List A) (zs : List C) → each_of k xs ≡ Some zs → each_of f xs ≡ Some (found (each_of f xs))
  are_found xs zs e = some (each_of f xs) (sym (each_made xs) ∙ e)
    where
      some : (o : Option (List B)) → option_map (map g) o ≡ Some zs → o ≡ Some (found o)
      some None h = absurd (cc)
      some (Some ys) h = refl

  pub made_of_found : (xs : List A) (zs : List C) → each_of k xs ≡ Some zs → zs ≡ map g (found (each_of f xs))
  made_of_found xs zs e = made (each_of f xs) (sym (each_made xs) ∙ e)
    where
      made : (o : Option (List B)) → option_map (map g) o ≡ Some zs → zs ≡ map g (found o)
      made None h = absurd (cc)
      made (Some ys) h = let w : map g ys ≡ zs = cc in sym w

-- Lists that get one more item.
use Rattle.std.proofs.Common.{◌≡◌, ℕ, ◌+◌, ◌<◌, ◌≤◌, List, [], ◌∷◌, ◌++◌, length, map, take, take_all, get_or, sym, ap, ◌∙◌}
use Rattle.std.proofs.lemmas.List.{length_push, map_more}

-- how long the list is
pub one_longer : {A : Type 0} (old : List A) (x : A) {new : List A} {n : ℕ} → new ≡ old ++ x ∷ [] → length old ≡ n → length new ≡ n + 1
one_longer old x e had = ap length e ∙ length_push old x ∙ ap (λ k. k + 1) had

-- what the items of another list are mapped to, one after the other
module _ {A B : Type 0} (f : A → B) (xs : List A) (i : ℕ) where
  pub mapped_more : (x : A) (y : B) (old : List B) {new : List B} → i < length xs → x ≡ get_or xs i x → new ≡ old ++ y ∷ [] → y ≡ f x → old ≡ map f (take i xs) → new ≡ map f (take (i + 1) xs)
  mapped_more x y old low is e here had =
      e ∙ ap (λ l. l ++ y ∷ []) had ∙ ap (λ z. map f (take i xs) ++ z ∷ []) (here ∙ ap f is) ∙ sym (map_more f xs i x low)

  pub mapped_all : (ys : List B) → length xs ≤ i → ys ≡ map f (take i xs) → ys ≡ map f xs
  mapped_all ys end had = had ∙ ap (map f) (take_all i xs end)

-- Two lists that agree at each place.
use Rattle.std.proofs.Common.{◌≡◌, ℕ, suc, ◌<◌, List, [], ◌∷◌, length, map, get_or, refl, ap, ◌∙◌, arith}

module _ {X Y Z : Type 0} (h : Y → Z) (k : X → Z) (e : X) where
  pub maps_agree : (ys : List Y) (xs : List X) → length ys ≡ length xs
      → ((i : ℕ) (d : Y) → i < length ys → h (get_or ys i d) ≡ k (get_or xs i e)) → map h ys ≡ map k xs
  maps_agree [] [] same at = refl
  maps_agree [] (x ∷ xs) same at = absurd (omega (arith, same))
  maps_agree (y ∷ ys) [] same at = absurd (omega (arith, same))
  maps_agree (y ∷ ys) (x ∷ xs) same at =
      ap (λ z. z ∷ map h ys) (at 0 y (omega arith))
      ∙ ap (λ zs. k x ∷ zs) (maps_agree ys xs (omega (arith, same)) (λ i d low. at (suc i) d (omega (arith, low))))

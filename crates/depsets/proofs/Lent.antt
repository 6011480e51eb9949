-- Distinct items that lie elsewhere are distinct by what they are.
use Rattle.std.proofs.Common.{◌≡◌, Bool, true, false, cond, ◌||◌, List, [], ◌∷◌, ◌++◌, map, refl, ap, ◌∙◌}
use Rattle.std.specs.List.{list_any}
use Rattle.std.proofs.lemmas.List.{map-append}
use Rattle.depsets.specs.Keys.{has, keep}

module _ {R K : Type 0} (f : R → K) (eq : K → K → Bool) where
  pub has-map : (q : K) (rs : List R) → list_any (λ r. eq q (f r)) rs ≡ has eq (map f rs) q
  has-map q [] = refl
  has-map q (r ∷ rs) = ap (λ b. eq q (f r) || b) (has-map q rs)

  put-at : (b : Bool) (r : R) (rs : List R) → map f (cond b rs (rs ++ r ∷ [])) ≡ cond b (map f rs) (map f rs ++ f r ∷ [])
  put-at true r rs = refl
  put-at false r rs = map-append f rs (r ∷ [])

  pub keep-map : (r : R) (rs : List R) → map f (cond (list_any (λ s. eq (f r) (f s)) rs) rs (rs ++ r ∷ [])) ≡ keep eq (map f rs) (f r)
  keep-map r rs =
      put-at (list_any (λ s. eq (f r) (f s)) rs) r rs
      ∙ ap (λ b. cond b (map f rs) (map f rs ++ f r ∷ [])) (has-map (f r) rs)

-- What is noted of parts that are compared.
use Rattle.std.proofs.Common.{◌≡◌, ℕ, Bool, List, [], ◌∷◌, ◌++◌, Some, cond, ap, refl}
use Rattle.std.specs.Map.{lookup}
use Rattle.claims.specs.Leaders.{known_in}
use Rattle.claims.specs.Same.{same_parts}
use Rattle.claims.specs.Seen.{noted, parts_of}
use Rattle.claims.specs.declared.comparable.Comparable.{Comparable}

module _ (test : Comparable → Bool) (k : Comparable) (same : (j : Comparable) → test j ≡ same_parts (parts_of k) (parts_of j)) where
  pub known_is : (es : List (Comparable × ℕ)) → lookup test es ≡ known_in (noted es) (parts_of k)
  known_is [] = refl
  known_is (e ∷ es) = λ i. cond (same e.0 i) (Some e.1) (known_is es i)

pub noted_more : (es : List (Comparable × ℕ)) (k : Comparable) (n : ℕ) → noted (es ++ (k, n) ∷ []) ≡ noted es ++ (parts_of k, n) ∷ []
noted_more [] k n = refl
noted_more (e ∷ es) k n = ap (λ l. (parts_of e.0, e.1) ∷ l) (noted_more es k n)

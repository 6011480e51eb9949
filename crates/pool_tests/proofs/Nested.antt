-- Texts one after the other, by the places of their list.
use Rattle.std.proofs.Common.{◌≡◌, ℕ, zero, suc, ◌+◌, ◌<◌, ◌≤◌, List, [], ◌∷◌, ◌++◌, length, take, get_or, sym, refl, ap, ◌∙◌, subst, arith, add-one}
use Rattle.std.proofs.lemmas.List.{append_assoc}
use Rattle.pool_tests.specs.Examples.{joined}

append_none : {X : Type 0} (l : List X) → l ++ [] ≡ l
append_none [] = refl
append_none (x ∷ xs) = ap (λ l. x ∷ l) (append_none xs)

joined_next : (us : List (List ℕ)) (i : ℕ) (d : List ℕ) → i < length us → joined (take (suc i) us) ≡ joined (take i us) ++ get_or us i d
joined_next [] i d lt = absurd (omega arith)
joined_next (u ∷ us) zero d lt = append_none u
joined_next (u ∷ us) (suc i) d lt = ap (λ (l : List ℕ). u ++ l) (joined_next us i d (omega arith)) ∙ sym (append_assoc u (joined (take i us)) (get_or us i d))

pub joined_more : (us : List (List ℕ)) (i : ℕ) (d : List ℕ) → i < length us → joined (take (i + 1) us) ≡ joined (take i us) ++ get_or us i d
joined_more us i d lt = subst (λ (j : ℕ). joined (take j us) ≡ joined (take i us) ++ get_or us i d) (sym (add-one i)) (joined_next us i d lt)

pub joined_all : (us : List (List ℕ)) (i : ℕ) → length us ≤ i → joined (take i us) ≡ joined us
joined_all [] zero le = refl
joined_all [] (suc i) le = refl
joined_all (u ∷ us) zero le = absurd (omega arith)
joined_all (u ∷ us) (suc i) le = ap (λ (l : List ℕ). u ++ l) (joined_all us i (omega arith))

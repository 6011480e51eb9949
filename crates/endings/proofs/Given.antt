-- Names that are given, one global after the other.
use Rattle.std.proofs.Common.{◌≡◌, ℕ, zero, suc, ◌+◌, List, [], ◌∷◌, ◌++◌, drop, slice_get, Option, None, refl, sym, ap, ◌∙◌, add-one}
use Rattle.std.specs.Prelude.{replicate}
use Rattle.values.specs.View.{FrozenTree}
use Rattle.loading.specs.Loads.{Name}
use Rattle.evaluation.specs.Naming.{Naming, names_given}

module _ {A : Type 0} where
  pub drop_none : (xs : List A) (i : ℕ) → slice_get xs i ≡ None → drop i xs ≡ []
  drop_none [] zero h = refl
  drop_none [] (suc i) h = refl
  drop_none (x ∷ xs) zero h = absurd (cc)
  drop_none (x ∷ xs) (suc i) h = drop_none xs i h

  one-more : (n : ℕ) (x : A) → replicate n x ++ x ∷ [] ≡ replicate (suc n) x
  one-more zero x = refl
  one-more (suc n) x = ap (λ l. x ∷ l) (one-more n x)

  pub replicate_more : (n : ℕ) (x : A) → replicate n x ++ x ∷ [] ≡ replicate (n + 1) x
  replicate_more n x = one-more n x ∙ ap (λ k. replicate k x) (sym (add-one n))

-- where no global is left, all names are given
pub given_all : (ns : Naming) (xs : List Name) (ts : List (Option FrozenTree)) → ts ≡ [] → names_given ns xs ts ≡ ns
given_all ns [] ts h = refl
given_all ns (x ∷ xs) [] h = refl
given_all ns (x ∷ xs) (t ∷ ts) h = absurd (cc)

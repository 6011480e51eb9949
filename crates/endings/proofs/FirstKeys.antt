-- The first keys of some that are distinct, put one after the other.
use Rattle.std.proofs.Common.{◌≡◌, ◌∙◌, ℕ, zero, suc, ◌+◌, ◌<◌, ◌≤◌, List, [], ◌∷◌, ◌++◌, Some, ap, arith, get_or, length, refl, slice_get, sym, take}
use Rattle.std.proofs.lemmas.List.{append_assoc, get_or_at, length-append, length_push, take_at}
use Rattle.std.proofs.lemmas.Option.{slice_get_read}
use Rattle.std.specs.List.{IsDistinct}
use Rattle.indexmap.specs.IndexSet.{insert_key}
use Rattle.keys.specs.contracts.key.KeyPartialEq.TheImpl.{eq-value}
use Rattle.keys.specs.declared.key.Key.{Key}
use Rattle.values.proofs.KeyListLemmas.{keys-next}

-- no key came before, so each is put last
module _ (all first left less : List Key) (k : Key) (distinct : IsDistinct eq-value.it all) (p : left ≡ k ∷ less) (had : first ++ left ≡ all) where
  split : first ++ k ∷ less ≡ all
  split = ap (λ l. first ++ l) (sym p) ∙ had

  split_behind : (first ++ k ∷ []) ++ less ≡ all
  split_behind = append_assoc first (k ∷ []) less ∙ split

  at : slice_get all (length first) ≡ Some k
  at =
      let long = ap length split in
      let many = length-append first (k ∷ less) in
      slice_get_read all (length all) (length first) k refl (omega (arith, long, many)) (sym (get_or_at first k less k (length first) refl) ∙ ap (λ l. get_or l (length first) k) split)

  put_last : insert_key eq-value.it first k ≡ first ++ k ∷ []
  put_last =
      ap (λ l. insert_key eq-value.it l k) (sym (take_at first (k ∷ less) (length first) refl) ∙ ap (take (length first)) split)
      ∙ keys-next all (length first) k distinct at
      ∙ sym (sym (take_at (first ++ k ∷ []) less (length first + 1) (length_push first k)) ∙ ap (take (length first + 1)) split_behind)

  pub first_put : (new : List Key) → new ≡ insert_key eq-value.it first k → (new ++ less ≡ all) × (length new ≡ length first + 1)
  first_put new e = (ap (λ l. l ++ less) (e ∙ put_last) ∙ split_behind, ap length (e ∙ put_last) ∙ length_push first k)

-- where no key is left to put, or none that may be
pub firsts_are : (all first left : List Key) (n m : ℕ) → first ++ left ≡ all → length first + m ≡ n → n ≤ length all → (0 < m → length left ≡ 0) → first ≡ take n all
firsts_are all first left n zero had count within spent = sym (take_at first left n (omega (arith, count))) ∙ ap (take n) had
firsts_are all first left n (suc m) had count within spent =
    let long = ap length had in
    let many = length-append first left in
    let none = spent (omega arith) in
    absurd (omega (arith, count, within, long, many, none))

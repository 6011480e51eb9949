-- Lists of texts that are in order, and what a test keeps of them.
use Rattle.std.proofs.Common.{◌≡◌, ◌∙◌, ◌⊎◌, ℕ, zero, suc, Bool, true, false, cond, List, [], ◌∷◌, ap, sym, refl, subst, arith, inl, inr, Contains, map-id}
use Rattle.std.specs.List.{filter, IsDistinct}
use Rattle.std.specs.List.Sorted.{IsPermutation, IsSorted}
use Rattle.std.specs.Cmp.Lexicographic.{slice_cmp}
use Rattle.std.specs.Ordering.{nat_cmp}
use Rattle.std.specs.Str.{bytes_eq}
use Rattle.std.specs.declared.cmp.Ordering.TheVariants.{Less}
use Rattle.std.proofs.lemmas.List.Sorted.{Contains-permutation, IsPermutation-sym}
use Rattle.actions.specs.Ascending.{AreAscending, Each}
use Rattle.actions.proofs.Ascending.{sorted_ascends, ascending_same}

-- ---- what a test keeps

module _ {X : Type 0} (p : X → Bool) where
  keeps_each : (P : X → Type 0) (xs : List X) → Each P xs → Each P (filter p xs)
  keeps_each P [] h = tt
  keeps_each P (x ∷ xs) h =
      elim (p x) as (λ b. Each P (cond b (x ∷ filter p xs) (filter p xs))) [
        | true ↦ (h.0, keeps_each P xs h.1)
        | false ↦ keeps_each P xs h.1
      ]

  later_in : (x : X) (xs : List X) (z : X) → Contains xs z → Contains (x ∷ xs) z
  later_in x xs z (k, low, is) = (suc k, omega (arith, low), is)

  in_split : (x : X) (xs : List X) (z : X) → Contains (x ∷ xs) z → (x ≡ z) ⊎ Contains xs z
  in_split x xs z (zero, low, is) = inl is
  in_split x xs z (suc k, low, is) = inr (k, omega (arith, low), is)

  -- what passes is kept
  kept : (xs : List X) (z : X) → p z ≡ true → Contains xs z → Contains (filter p xs) z
  kept [] z passes (k, low, is) = absurd (omega (arith, low))
  kept (x ∷ xs) z passes (zero, low, is) =
      subst (λ b. Contains (cond b (x ∷ filter p xs) (filter p xs)) z) (sym (ap p is ∙ passes)) (0, omega arith, is)
  kept (x ∷ xs) z passes (suc k, low, is) =
      let rest : Contains (filter p xs) z = kept xs z passes (k, omega (arith, low), is) in
      elim (p x) as (λ b. Contains (cond b (x ∷ filter p xs) (filter p xs)) z) [
        | true ↦ later_in x (filter p xs) z rest
        | false ↦ rest
      ]

  -- what is kept passes, and was there
  was_first : (x : X) (xs : List X) (z : X) → (Contains (filter p xs) z → (p z ≡ true) × Contains xs z) → p x ≡ true
      → (x ≡ z) ⊎ Contains (filter p xs) z → (p z ≡ true) × Contains (x ∷ xs) z
  was_first x xs z rest e (inl is) = (ap p (sym is) ∙ e, (0, omega arith, is))
  was_first x xs z rest e (inr h) = let r = rest h in (r.0, later_in x xs z r.1)

  was_case : (x : X) (xs : List X) (z : X) → (Contains (filter p xs) z → (p z ≡ true) × Contains xs z) → (b : Bool) → p x ≡ b
      → Contains (cond b (x ∷ filter p xs) (filter p xs)) z → (p z ≡ true) × Contains (x ∷ xs) z
  was_case x xs z rest true e h = was_first x xs z rest e (in_split x (filter p xs) z h)
  was_case x xs z rest false e h = let r = rest h in (r.0, later_in x xs z r.1)

  was : (xs : List X) (z : X) → Contains (filter p xs) z → (p z ≡ true) × Contains xs z
  was [] z (k, low, is) = absurd (omega (arith, low))
  was (x ∷ xs) z h = was_case x xs z (was xs z) (p x) refl h

keeps_ascending : (p : List ℕ → Bool) (xs : List (List ℕ)) → AreAscending xs → AreAscending (filter p xs)
keeps_ascending p [] h = tt
keeps_ascending p (x ∷ xs) h =
    elim (p x) as (λ b. AreAscending (cond b (x ∷ filter p xs) (filter p xs))) [
      | true ↦ (keeps_each p (λ y. slice_cmp nat_cmp x y ≡ Less) xs h.0, keeps_ascending p xs h.1)
      | false ↦ keeps_ascending p xs h.1
    ]

-- ---- two ways to the same list

-- what is kept of a list and then sorted is what is kept of the sorted list, where no two are the same
pub kept_and_sorted : (p : List ℕ → Bool) (all sorted chosen : List (List ℕ)) → IsPermutation all sorted
    → IsSorted (slice_cmp nat_cmp) sorted → IsDistinct bytes_eq sorted → IsPermutation (filter p all) chosen
    → IsSorted (slice_cmp nat_cmp) chosen → IsDistinct bytes_eq chosen → chosen ≡ filter p sorted
kept_and_sorted p all sorted chosen moved up apart chosen_moved chosen_up chosen_apart =
    ascending_same (λ (x : List ℕ). x) chosen (filter p sorted)
    (subst AreAscending (sym (map-id chosen)) (sorted_ascends chosen chosen_up chosen_apart))
    (subst AreAscending (sym (map-id (filter p sorted))) (keeps_ascending p sorted (sorted_ascends sorted up apart)))
    forth back
  where
    forth : (z : List ℕ) → Contains chosen z → Contains (filter p sorted) z
    forth z h =
        let r = was p all z (Contains-permutation chosen (filter p all) z (IsPermutation-sym (filter p all) chosen chosen_moved) h) in
        kept p sorted z r.0 (Contains-permutation all sorted z moved r.1)

    back : (z : List ℕ) → Contains (filter p sorted) z → Contains chosen z
    back z h =
        let r = was p sorted z h in
        Contains-permutation (filter p all) chosen z chosen_moved
        (kept p all z r.0 (Contains-permutation sorted all z (IsPermutation-sym all sorted moved) r.1))

-- Slots that are filled, and read in order.
use Rattle.std.proofs.Common.{◌≡◌, ℕ, suc, ◌+◌, ◌-◌, ◌<◌, List, [], ◌∷◌, ◌++◌, refl, length, drop, get_or, slice_set, Option, Some, None, Result, replicate, sym, ap, ◌∙◌, subst, arith, inl, inr}
use Rattle.std.proofs.lemmas.Grind.{get_or-set_at}
use Rattle.std.proofs.lemmas.List.{get_or-set_other, length-set, get_or-drop, length-drop, drop-drop, get_or_append_left, get_or_push, length_push, get_or-replicate, length-replicate}
use Rattle.std.proofs.lemmas.List.Elements.{All-tail}
use Rattle.std.proofs.lemmas.Bool.{cases_eq, cases_lt}
use Rattle.std.specs.List.{All}
use denote.Param.Members.{Shared}
use Rattle.parallel.specs.Made.{AreGiven, AreMade, FitsSlot, FitSlots, MayGive}

module _ {F X E : Type 0} (g : Shared F (ℕ × Unit {0}) (Result X E)) (f : F) where
  -- a slot gets what was made at its place
  pub fit_set : (os : List (Option X)) (i : ℕ) (x : X) → MayGive g f i x → i < length os
      → FitSlots g f os → FitSlots g f (slice_set os i (Some x))
  fit_set os i x made within fits j d inside = elim (cases_eq j i) [
    | inl same ↦
        subst (λ o. FitsSlot g f j o) (sym (get_or-set_at os i j (Some x) d same within))
        (subst (λ k. MayGive g f k x) (sym same) made)
    | inr other ↦
        subst (λ o. FitsSlot g f j o) (sym (get_or-set_other os i j (Some x) d other))
        (fits j d (subst (λ n. j < n) (length-set os i (Some x)) inside))
  ]

  -- empty slots
  pub fit_none : (n : ℕ) → FitSlots g f (replicate n None)
  fit_none n i d low = subst (λ o. FitsSlot g f i o) (sym (get_or-replicate n i None d (subst (λ m. i < m) (length-replicate n None) low))) tt

  -- the first of what was made
  pub made_front : (ms : List (ℕ × X)) (i : ℕ) (x : X) (rest : List (ℕ × X)) → ms ≡ (i, x) ∷ rest → AreMade g f ms
      → MayGive g f i x
  made_front ms i x rest is made = subst (λ l. AreMade g f l) is made 0 (i, x) (omega arith)

  -- one more item in order
  pub given_push : (xs : List X) (x : X) → MayGive g f (length xs) x → AreGiven g f xs
      → AreGiven g f (xs ++ x ∷ [])
  given_push xs x here each i d low = (
    refl,
    elim (cases_lt i (length xs)) [
      | inl old ↦ subst (λ y. MayGive g f i y) (sym (get_or_append_left xs (x ∷ []) d i old)) (each i d old).1
      | inr new ↦
          let last : length xs ≡ i = omega (arith, low, new, length_push xs x) in
          subst (λ y. MayGive g f i y) (sym (get_or_push xs x d i last)) (subst (λ k. MayGive g f k x) last here)
    ],
  )

-- what holds of all holds of those behind the first
pub all_rest : {Y : Type 0} (P : Y → Type 0) (ys : List Y) (y : Y) (rest : List Y) → ys ≡ y ∷ rest → All P ys → All P rest
all_rest P ys y rest is all = All-tail P y rest (subst (λ l. All P l) is all)

-- what is at the front behind so many stands at that place
pub at_front : {X : Type 0} (os : List X) (i : ℕ) (o d : X) (rest : List X) → drop i os ≡ o ∷ rest → get_or os i d ≡ o
at_front os i o d rest is =
    let here : i ≡ i + 0 = omega arith in
    ap (λ k. get_or os k d) here ∙ sym (get_or-drop i os 0 d) ∙ ap (λ l. get_or l 0 d) is

pub within_front : {X : Type 0} (os : List X) (i : ℕ) (o : X) (rest : List X) → drop i os ≡ o ∷ rest → i < length os
within_front os i o rest is =
    let left : length os - i ≡ suc (length rest) = sym (length-drop i os) ∙ ap length is in
    omega (arith, left)

pub behind_front : {X : Type 0} (os : List X) (i : ℕ) (o : X) (rest : List X) → drop i os ≡ o ∷ rest → drop (i + 1) os ≡ rest
behind_front os i o rest is = sym (drop-drop 1 i os) ∙ ap (drop 1) is

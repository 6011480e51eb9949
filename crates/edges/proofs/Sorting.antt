-- Users are sorted into rooms by a walk over all edges that counts them, and another that files them.
use Rattle.std.proofs.Common.{◌≡◌, ℕ, zero, suc, ◌+◌, ◌-◌, ◌<◌, ◌≤◌, inl, inr, true, false, List, [], ◌∷◌, ◌++◌, length, filter, get_or, take, set, sym, ap, ◌∙◌, subst, arith, add-one, eqb-true, if◌then◌else◌, ◌||◌}
use Rattle.std.specs.Prelude.{nat_eq}
use Rattle.std.specs.List.{IsDistinct, range_with_len}
use Rattle.std.proofs.lemmas.List.{length_push, get_or_read, take_all, take-append-le, get_or-set_same, get_or-set_other}
use Rattle.edges.specs.Rows.{row, has, users_of}
use Rattle.edges.proofs.Tests.{cases_of, or_right, or_none}
use Rattle.edges.proofs.Lists.{apart_of, has_more, new_at, has-get_or, chosen, unchosen}

-- one entry more of a list of places, each of which is changed once
pub touched : {X : Type 0} (e : X) (f : X → X) (was now start : List X) (list : List ℕ) (i : ℕ) → IsDistinct nat_eq list → i < length list → get_or list i 0 < length was
    → now ≡ set was (get_or list i 0) (f (get_or was (get_or list i 0) e)) → (d : ℕ)
    → get_or was d e ≡ (if has (take i list) d then f (get_or start d e) else get_or start d e)
    → get_or now d e ≡ (if has (take (i + 1) list) d then f (get_or start d e) else get_or start d e)
touched e f was now start list i distinct within inside is d older = elim (cases_of (nat_eq d (get_or list i 0))) [
  | inl same ↦
      let here : d ≡ get_or list i 0 = eqb-true d (get_or list i 0) same in
      let fresh : has (take i list) d ≡ false = subst (λ x. has (take i list) x ≡ false) (sym here) (new_at list i distinct within) in
      let taken : has (take (i + 1) list) d ≡ true = has_more list i d within ∙ or_right (has (take i list) d) (nat_eq d (get_or list i 0)) same in
      let old : get_or was d e ≡ get_or start d e = older ∙ ap (λ b. if b then f (get_or start d e) else get_or start d e) fresh in
      ap (λ xs. get_or xs d e) is
      ∙ subst (λ x. get_or (set was (get_or list i 0) (f (get_or was (get_or list i 0) e))) x e ≡ f (get_or was x e)) (sym here) (get_or-set_same was (get_or list i 0) (f (get_or was (get_or list i 0) e)) e inside)
      ∙ ap f old
      ∙ sym (ap (λ b. if b then f (get_or start d e) else get_or start d e) taken)
  | inr other ↦
      let taken : has (take (i + 1) list) d ≡ has (take i list) d = has_more list i d within ∙ ap (λ b. has (take i list) d || b) other ∙ or_none (has (take i list) d) in
      ap (λ xs. get_or xs d e) is
      ∙ get_or-set_other was (get_or list i 0) d (f (get_or was (get_or list i 0) e)) e (apart_of d (get_or list i 0) other)
      ∙ older
      ∙ sym (ap (λ b. if b then f (get_or start d e) else get_or start d e) taken)
]

-- what is touched next was not touched yet
pub untouched : {X : Type 0} (e : X) (f : X → X) (was start : List X) (list : List ℕ) (i : ℕ) → IsDistinct nat_eq list → i < length list
    → ((d : ℕ) → get_or was d e ≡ (if has (take i list) d then f (get_or start d e) else get_or start d e)) → get_or was (get_or list i 0) e ≡ get_or start (get_or list i 0) e
untouched e f was start list i distinct within each =
    each (get_or list i 0) ∙ ap (λ b. if b then f (get_or start (get_or list i 0) e) else get_or start (get_or list i 0) e) (new_at list i distinct within)

-- the turn of an entry: where it stands, that it was not touched yet, and that it now is
module _ {X : Type 0} (e : X) (f : X → X) (was start : List X) (list : List ℕ) (i x y : ℕ) (distinct : IsDistinct nat_eq list) (inside : (d : ℕ) → has list d ≡ true → d < length start) (len : length was ≡ length start)
    (low : i < length list) (read : x ≡ get_or list i x) (named : y ≡ x) (each : (d : ℕ) → get_or was d e ≡ (if has (take i list) d then f (get_or start d e) else get_or start d e)) where
  turn_is : y ≡ get_or list i 0
  turn_is = named ∙ get_or_read list i x low read 0

  pub turn_listed : has list y ≡ true
  turn_listed = subst (λ z. has list z ≡ true) (sym turn_is) (has-get_or list i low)

  pub turn_inside : y < length was
  turn_inside = omega (arith, inside y turn_listed, len)

  pub turn_old : get_or was y e ≡ get_or start y e
  turn_old = subst (λ z. get_or was z e ≡ get_or start z e) (sym turn_is) (untouched e f was start list i distinct low each)

  pub turn_touched : (now : List X) → now ≡ set was y (f (get_or was y e)) → (d : ℕ) → get_or now d e ≡ (if has (take (i + 1) list) d then f (get_or start d e) else get_or start d e)
  turn_touched now is d =
      touched e f was now start list i distinct low (subst (λ z. z < length was) turn_is turn_inside)
      (subst (λ z. now ≡ set was z (f (get_or was z e))) turn_is is) d (each d)

-- the users of d among the first n nodes
abbrev pub users_among : List (List ℕ) → ℕ → ℕ → List ℕ
users_among deps d n = filter (λ m. has (row deps m) d) (range_with_len 0 n)

pub list_more : (deps : List (List ℕ)) (was now : List ℕ) (d n : ℕ) → was ≡ users_among deps d n → now ≡ (if has (row deps n) d then was ++ n ∷ [] else was) → now ≡ users_among deps d (n + 1)
list_more deps was now d n older is = elim (cases_of (has (row deps n) d)) [
  | inl yes' ↦ is ∙ ap (λ b. if b then was ++ n ∷ [] else was) yes' ∙ ap (λ l. l ++ n ∷ []) older ∙ sym (chosen (λ m. has (row deps m) d) n yes')
  | inr no' ↦ is ∙ ap (λ b. if b then was ++ n ∷ [] else was) no' ∙ older ∙ sym (unchosen (λ m. has (row deps m) d) n no')
]

pub count_more : (deps : List (List ℕ)) (was now d n : ℕ) → was ≡ length (users_among deps d n) → now ≡ (if has (row deps n) d then was + 1 else was) → now ≡ length (users_among deps d (n + 1))
count_more deps was now d n older is = elim (cases_of (has (row deps n) d)) [
  | inl yes' ↦ is ∙ ap (λ b. if b then was + 1 else was) yes' ∙ ap (λ k. k + 1) older ∙ sym (length_push (users_among deps d n) n) ∙ sym (ap length (chosen (λ m. has (row deps m) d) n yes'))
  | inr no' ↦ is ∙ ap (λ b. if b then was + 1 else was) no' ∙ older ∙ sym (ap length (unchosen (λ m. has (row deps m) d) n no'))
]

-- no node has more users than there are nodes
pub few_users : (deps : List (List ℕ)) (d n : ℕ) → length (users_among deps d n) ≤ n
few_users deps d zero = omega arith
few_users deps d (suc n) =
    let rest = few_users deps d n in
    subst (λ k. length (users_among deps d k) ≤ k) (add-one n) (elim (cases_of (has (row deps n) d)) [
      | inl yes' ↦ let e = ap length (chosen (λ m. has (row deps m) d) n yes') in let l = length_push (users_among deps d n) n in omega (arith, rest, e, l)
      | inr no' ↦ let e = ap length (unchosen (λ m. has (row deps m) d) n no') in omega (arith, rest, e)
    ])

users_climb : (deps : List (List ℕ)) (d n k : ℕ) → length (users_among deps d n) ≤ length (users_among deps d (n + k))
users_climb deps d n zero = let e : n + 0 ≡ n = omega arith in subst (λ m. length (users_among deps d n) ≤ length (users_among deps d m)) (sym e) (omega arith)
users_climb deps d n (suc k) =
    let rest = users_climb deps d n k in
    let e : n + suc k ≡ (n + k) + 1 = omega arith in
    subst (λ m. length (users_among deps d n) ≤ length (users_among deps d m)) (sym e) (elim (cases_of (has (row deps (n + k)) d)) [
      | inl yes' ↦ let e = ap length (chosen (λ m. has (row deps m) d) (n + k) yes') in let l = length_push (users_among deps d (n + k)) (n + k) in omega (arith, rest, e, l)
      | inr no' ↦ let e = ap length (unchosen (λ m. has (row deps m) d) (n + k) no') in omega (arith, rest, e)
    ])

-- a user that is yet to be filed has room
pub room_left : (deps : List (List ℕ)) (d n : ℕ) → n < length deps → has (row deps n) d ≡ true → length (users_among deps d n) < length (users_of deps d)
room_left deps d n low is =
    let one = ap length (chosen (λ m. has (row deps m) d) n is) in
    let l = length_push (users_among deps d n) n in
    let more = users_climb deps d (n + 1) (length deps - (n + 1)) in
    let e : (n + 1) + (length deps - (n + 1)) ≡ length deps = omega (arith, low) in
    let all : length (users_among deps d (n + 1)) ≤ length (users_of deps d) = subst (λ k. length (users_among deps d (n + 1)) ≤ length (users_among deps d k)) e more in
    omega (arith, one, l, all)

-- what is lent as a slice of a vector and comes back at its length
pub whole : {X : Type 0} (xs ys : List X) (n : ℕ) → length xs ≡ n → take n (xs ++ ys) ≡ xs
whole xs ys n long = take-append-le n xs ys (omega (arith, long)) ∙ take_all n xs (omega (arith, long))

-- the end of a walk over a whole list
pub at_end : {X : Type 0} (e : X) (f : X → X) (was start : List X) (list : List ℕ) (i : ℕ) → length list ≤ i → ((d : ℕ) → get_or was d e ≡ (if has (take i list) d then f (get_or start d e) else get_or start d e))
    → (d : ℕ) → get_or was d e ≡ (if has list d then f (get_or start d e) else get_or start d e)
at_end e f was start list i past each d = each d ∙ ap (λ l. if has l d then f (get_or start d e) else get_or start d e) (take_all i list past)

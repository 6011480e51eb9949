-- Texts that are sorted, no two the same, ascend; and lists whose keys ascend are the same where their elements are.
use Rattle.std.proofs.Common.{◌≡◌, ◌∙◌, ◌⊎◌, ◌<◌, ℕ, zero, suc, ◌+◌, false, List, [], ◌∷◌, map, length, get_or, ap, sym, refl, subst, arith, inl, inr, Contains, true≢false}
use Rattle.std.specs.List.{IsDistinct, AllByRecursion}
use Rattle.std.specs.List.Sorted.{IsSorted}
use Rattle.std.specs.Cmp.Lexicographic.{slice_cmp}
use Rattle.std.specs.Ordering.{nat_cmp, is_eq, is_lt, on, ordering_reverse}
use Rattle.std.specs.Cmp.{IsTotalOrder}
use Rattle.std.specs.Str.{bytes_eq}
use Rattle.std.specs.declared.cmp.Ordering.{Ordering}
use Rattle.std.specs.declared.cmp.Ordering.TheVariants.{Less, Equal, Greater}
use Rattle.std.proofs.lemmas.Cmp.{nat_list_cmp_total, on_total, tied_itself}
use Rattle.std.proofs.lemmas.Map.Text.{is_eq-slice_cmp}
use Rattle.std.proofs.lemmas.Map.Keys.{IsDistinct-head, IsDistinct-tail}
use Rattle.std.proofs.lemmas.List.Sorted.{sorted_far, ranks_by}
use Rattle.actions.specs.Ascending.{AreAscending, Each}

-- ---- from a sort

no_other : (r : Ordering) → is_lt (ordering_reverse r) ≡ false → is_eq r ≡ false → r ≡ Less
no_other Less up apart = refl
no_other Equal up apart = absurd (true≢false apart)
no_other Greater up apart = absurd (true≢false up)

less : (x y : List ℕ) → is_lt (slice_cmp nat_cmp y x) ≡ false → bytes_eq x y ≡ false → slice_cmp nat_cmp x y ≡ Less
less x y up apart =
    no_other (slice_cmp nat_cmp x y) (ap is_lt (sym (nat_list_cmp_total.antisymm y x)) ∙ up) (is_eq-slice_cmp x y ∙ apart)

each_less : (x : List ℕ) (xs : List (List ℕ)) → ((k : ℕ) → k < length xs → is_lt (slice_cmp nat_cmp (get_or xs k x) x) ≡ false)
    → AllByRecursion (λ y. bytes_eq x y ≡ false) xs → Each (λ y. slice_cmp nat_cmp x y ≡ Less) xs
each_less x [] up apart = tt
each_less x (y ∷ ys) up apart =
    (less x y (up 0 (omega arith)) apart.0, each_less x ys (λ k low. up (suc k) (omega (arith, low))) apart.1)

rest_sorted : (x : List ℕ) (xs : List (List ℕ)) → IsSorted (slice_cmp nat_cmp) (x ∷ xs) → IsSorted (slice_cmp nat_cmp) xs
rest_sorted x xs up k d low high =
    let next : suc k + 1 ≡ suc (k + 1) = omega arith in
    subst (λ (n : ℕ). is_lt (slice_cmp nat_cmp (get_or (x ∷ xs) n d) (get_or xs k d)) ≡ false) next (up (suc k) d (omega arith) (omega (arith, high)))

pub sorted_ascends : (xs : List (List ℕ)) → IsSorted (slice_cmp nat_cmp) xs → IsDistinct bytes_eq xs → AreAscending xs
sorted_ascends [] up apart = tt
sorted_ascends (x ∷ xs) up apart = (
  each_less x xs
      (λ k low. sorted_far (λ a b. is_lt (slice_cmp nat_cmp a b)) (ranks_by nat_list_cmp_total (λ y. y)) (x ∷ xs) up 0 (suc k) x (omega arith) (omega (arith, low)))
      (IsDistinct-head bytes_eq x xs apart),
  sorted_ascends xs (rest_sorted x xs up) (IsDistinct-tail bytes_eq x xs apart),
)

-- ---- the same elements

no_element : {A : Type 0} (x : A) → Contains [] x → ⊥
no_element x h = let none = h.1 in absurd (omega (arith, none))

pub head_in : {A : Type 0} (x : A) (xs : List A) → Contains (x ∷ xs) x
head_in x xs = (0, omega arith, refl)

pub tail_in : {A : Type 0} (x : A) (xs : List A) (z : A) → Contains xs z → Contains (x ∷ xs) z
tail_in x xs z (k, lt, is) = (suc k, omega (arith, lt), is)

in_split : {A : Type 0} (x : A) (xs : List A) (z : A) → Contains (x ∷ xs) z → (x ≡ z) ⊎ Contains xs z
in_split x xs z (zero, lt, is) = inl is
in_split x xs z (suc k, lt, is) = inr (k, omega (arith, lt), is)

-- each is less than those after it
abbrev pub Climbs : {A : Type 0} → (A → A → Ordering) → List A → Type 0
Climbs R [] = Unit {0}
Climbs R (x ∷ xs) = Each (λ y. R x y ≡ Less) xs × Climbs R xs

module _ {A : Type 0} {R : A → A → Ordering} (o : IsTotalOrder R) where
  not_less_itself : (x : A) → R x x ≡ Less → ⊥
  not_less_itself x e = let same : Less ≡ Equal = sym e ∙ tied_itself o x in cc

  not_both : (x y : A) → R x y ≡ Less → R y x ≡ Less → ⊥
  not_both x y p q = not_less_itself x (o.trans x y x p q)

  less_in : (x : A) (xs : List A) → Each (λ y. R x y ≡ Less) xs → (z : A) → Contains xs z → R x z ≡ Less
  less_in x [] each z has = absurd (no_element z has)
  less_in x (y ∷ ys) each z has = elim (in_split y ys z has) [
    | inl e ↦ subst (λ (w : A). R x w ≡ Less) e each.0
    | inr later ↦ less_in x ys each.1 z later
  ]

  pub climbing_same : (xs ys : List A) → Climbs R xs → Climbs R ys → ((z : A) → Contains xs z → Contains ys z)
      → ((z : A) → Contains ys z → Contains xs z) → xs ≡ ys
  climbing_same [] [] a b f g = refl
  climbing_same [] (y ∷ ys) a b f g = absurd (no_element y (g y (head_in y ys)))
  climbing_same (x ∷ xs) [] a b f g = absurd (no_element x (f x (head_in x xs)))
  climbing_same (x ∷ xs) (y ∷ ys) a b f g =
      let heads : x ≡ y = heads_same (in_split y ys x (f x (head_in x xs))) (in_split x xs y (g y (head_in y ys))) in
      let tails : xs ≡ ys =
      climbing_same xs ys a.1 b.1
      (λ z h. left z h (sym heads) (in_split y ys z (f z (tail_in x xs z h))))
      (λ z h. right z h heads (in_split x xs z (g z (tail_in y ys z h)))) in
      λ i. heads i ∷ tails i
    where
      heads_same : (y ≡ x) ⊎ Contains ys x → (x ≡ y) ⊎ Contains xs y → x ≡ y
      heads_same (inl e) q = sym e
      heads_same (inr h) (inl e) = e
      heads_same (inr h) (inr k) = absurd (not_both y x (less_in y ys b.0 x h) (less_in x xs a.0 y k))

      left : (z : A) → Contains xs z → y ≡ x → (y ≡ z) ⊎ Contains ys z → Contains ys z
      left z h e (inl p) = absurd (not_less_itself x (subst (λ (w : A). R x w ≡ Less) (sym p ∙ e) (less_in x xs a.0 z h)))
      left z h e (inr k) = k

      right : (z : A) → Contains ys z → x ≡ y → (x ≡ z) ⊎ Contains xs z → Contains xs z
      right z h e (inl p) = absurd (not_less_itself y (subst (λ (w : A). R y w ≡ Less) (sym p ∙ e) (less_in y ys b.0 z h)))
      right z h e (inr k) = k

module _ {A : Type 0} (key : A → List ℕ) where
  each_key : (x : A) (xs : List A) → Each (λ y. slice_cmp nat_cmp (key x) y ≡ Less) (map key xs) → Each (λ y. on key (slice_cmp nat_cmp) x y ≡ Less) xs
  each_key x [] each = tt
  each_key x (y ∷ ys) each = (each.0, each_key x ys each.1)

  climbs : (xs : List A) → AreAscending (map key xs) → Climbs (on key (slice_cmp nat_cmp)) xs
  climbs [] a = tt
  climbs (x ∷ xs) a = (each_key x xs a.0, climbs xs a.1)

  pub ascending_same : (xs ys : List A) → AreAscending (map key xs) → AreAscending (map key ys)
      → ((z : A) → Contains xs z → Contains ys z) → ((z : A) → Contains ys z → Contains xs z) → xs ≡ ys
  ascending_same xs ys a b = climbing_same (on_total key nat_list_cmp_total) xs ys (climbs xs a) (climbs ys b)

-- Claims that are sorted, with each that repeats the one before it left out, are the claims put in order one by one.
use Rattle.std.proofs.Common.{◌≡◌, inl, inr, Bool, true, ◌&&◌, ℕ, ◌<◌, arith, nat_eq, List, [], ◌∷◌, Contains, refl, sym, ap, ◌∙◌}
use Rattle.std.specs.List.{AllByRecursion, dedup}
use Rattle.std.specs.List.Retain.{IsFiltered, DiffersFromLast}
use Rattle.std.specs.List.Sorted.{IsPermutation, IsSorted, IsStrictlySortedBy}
use Rattle.std.specs.Cmp.{IsEquivalence, ranks}
use Rattle.std.specs.Cmp.Lexicographic.{slice_cmp}
use Rattle.std.specs.Ordering.{nat_cmp, eq_by_cmp, is_eq, ordering_reverse, ordering_then, MatchOrdering}
use Rattle.std.proofs.lemmas.Bool.Decides.{nat_tests}
use Rattle.std.proofs.lemmas.Map.Text.{is_eq-slice_cmp}
use Rattle.std.specs.Str.{bytes_eq}
use Rattle.std.specs.declared.cmp.Ordering.{Ordering}
use Rattle.std.specs.declared.cmp.Ordering.TheVariants.{Less, Equal, Greater}
use Rattle.std.proofs.lemmas.Bool.{true≢false}
use Rattle.std.proofs.lemmas.Cmp.{tied_itself}
use Rattle.std.proofs.lemmas.List.Elements.{All-contains, All-contains_itself, All-from_recursion, recursion_from_All}
use Rattle.std.proofs.lemmas.List.Filters.{dedup_is}
use Rattle.std.proofs.lemmas.List.Kept.{Contains-dedup, Contains-from_dedup, IsStrictlySortedBy-dedup}
use Rattle.std.proofs.lemmas.List.Sorted.{Contains-permutation, IsPermutation-sym}
use Rattle.std.proofs.lemmas.Map.Lookups.{exact_bytes, exact_unsigned}
use Rattle.claims.specs.Claims.{claim_cmp, put_in_order, all_in_order, in_order}
use Rattle.actions.specs.Ascending.{Each}
use Rattle.claims.specs.declared.claiming.Claim.{Claim}
use Rattle.actions.proofs.Ascending.{Climbs, climbing_same, tail_in}
use Rattle.claims.proofs.OwnerLemmas.{claims_total, up-all, each-all, Has, has-put, has-keeps, then-first, then-second}

module _ {A : Type 0} where
  each_from : (P : A → Type 0) (xs : List A) → AllByRecursion P xs → Each P xs
  each_from P [] h = tt
  each_from P (x ∷ xs) h = (h.0, each_from P xs h.1)

  to_recursion : (P : A → Type 0) (xs : List A) → Each P xs → AllByRecursion P xs
  to_recursion P [] h = tt
  to_recursion P (x ∷ xs) h = (h.0, to_recursion P xs h.1)

  -- what holds of each holds of one that is there
  pub at_one : (P : A → Type 0) (xs : List A) → Each P xs → (z : A) → Contains xs z → P z
  at_one P xs h z c = All-contains P xs z (All-from_recursion P xs (to_recursion P xs h)) c

  each_itself : (xs : List A) → Each (Contains xs) xs
  each_itself xs = each_from (Contains xs) xs (recursion_from_All (Contains xs) xs (All-contains_itself xs))

  climbs_from : (R : A → A → Ordering) (xs : List A) → IsStrictlySortedBy R xs → Climbs R xs
  unfolding IsStrictlySortedBy
  climbs_from R [] h = tt
  climbs_from R (x ∷ xs) h = (each_from (λ y. R x y ≡ Less) xs h.0, climbs_from R xs h.1)

-- claims that tie are the same
exact : (c d : Claim) → claim_cmp c d ≡ Equal → c ≡ d
exact c d e =
    let paths : c.path ≡ d.path = exact_bytes c.path d.path (then-first (slice_cmp nat_cmp c.path d.path) _ e) in
    let later = then-second (slice_cmp nat_cmp c.path d.path) _ e in
    let labels : c.label ≡ d.label = exact_bytes c.label d.label (then-first (slice_cmp nat_cmp c.label d.label) _ later) in
    let places : c.place ≡ d.place = exact_unsigned c.place d.place (then-second (slice_cmp nat_cmp c.label d.label) _ later) in
    λ i. record { path = paths i; label = labels i; place = places i }

had_is_there : (d : Claim) (ks : List Claim) → Has d ks → Contains ks d
had_is_there d [] h = absurd h
had_is_there d (x ∷ xs) (inl e) = (0, omega arith, sym (exact d x e))
had_is_there d (x ∷ xs) (inr h) = tail_in x xs d (had_is_there d xs h)

-- ---- what is put in order

stays : (d : Claim) (ks ds : List Claim) → Has d ks → Has d (all_in_order ks ds)
stays d ks [] h = h
stays d ks (e ∷ es) h = stays d (put_in_order ks e) es (has-keeps d e ks h)

all_had : (ks ds : List Claim) → Each (λ d. Has d (all_in_order ks ds)) ds
all_had ks [] = tt
all_had ks (d ∷ ds) = (stays d (put_in_order ks d) ds (has-put ks d), all_had (put_in_order ks d) ds)

pub in_order_keeps : (xs : List Claim) (z : Claim) → Contains xs z → Contains (in_order xs) z
in_order_keeps xs z c = had_is_there z (in_order xs) (at_one (λ d. Has d (in_order xs)) xs (all_had [] xs) z c)

pub in_order_from : (xs : List Claim) (z : Claim) → Contains (in_order xs) z → Contains xs z
in_order_from xs z c = at_one (Contains xs) (in_order xs) (each-all (Contains xs) [] xs tt (each_itself xs)) z c

-- ---- a test that is true at ties alone

turned_level : (r : Ordering) → is_eq (ordering_reverse r) ≡ is_eq r
turned_level Less = refl
turned_level Equal = refl
turned_level Greater = refl

is_level : (r : Ordering) → is_eq r ≡ true → r ≡ Equal
is_level Less h = absurd (true≢false (sym h))
is_level Equal h = refl
is_level Greater h = absurd (true≢false (sym h))

module _ {E : Claim → Claim → Bool} (ties : (c d : Claim) → E c d ≡ eq_by_cmp claim_cmp c d) where
  equivalence : IsEquivalence E
  equivalence = record {
    refl = λ c. ties c c ∙ ap is_eq (tied_itself claims_total c);
    symm = λ c d. ties c d ∙ ap is_eq (claims_total.antisymm c d) ∙ turned_level (claim_cmp d c) ∙ sym (ties d c);
    congr = λ c d k e. ties c k ∙ ap is_eq (claims_total.congr c d k (is_level (claim_cmp c d) (sym (ties c d) ∙ e))) ∙ sym (ties d k);
  }

  same_claim : (c d : Claim) → E c d ≡ true → c ≡ d
  same_claim c d e = exact c d (is_level (claim_cmp c d) (sym (ties c d) ∙ e))

  deduped : (xs ys : List Claim) → IsPermutation xs ys → IsSorted claim_cmp ys → dedup E ys ≡ in_order xs
  deduped xs ys p up =
      climbing_same claims_total (dedup E ys) (in_order xs)
      (climbs_from claim_cmp (dedup E ys) (IsStrictlySortedBy-dedup claims_total ties ys up)) (up-all [] xs tt)
      (λ z c. in_order_keeps xs z (Contains-permutation ys xs z (IsPermutation-sym xs ys p) (Contains-from_dedup E ys z c)))
      (λ z c. Contains-dedup equivalence same_claim ys z (Contains-permutation xs ys z p (in_order_from xs z c)))

  pub sorted_in_order : (xs ys zs : List Claim) → IsPermutation xs ys → IsSorted claim_cmp ys → IsFiltered (DiffersFromLast E) [] ys zs → zs ≡ in_order xs
  sorted_in_order xs ys zs p up f = dedup_is E ys zs f ∙ deduped xs ys p up

-- equality of claims, field by field
abbrev pub claim_eq : Claim → Claim → Bool
claim_eq c d = bytes_eq c.path d.path && (bytes_eq c.label d.label && nat_eq c.place d.place)

level_then : (r o : Ordering) → is_eq (ordering_then r o) ≡ is_eq r && is_eq o
level_then Less o = refl
level_then Equal o = refl
level_then Greater o = refl

numbers_by : (a b : ℕ) (r : Ordering) → MatchOrdering r (a < b) (a ≡ b) (b < a) → is_eq r ≡ nat_eq a b
numbers_by a b Less h = grind (arith, nat_tests, h)
numbers_by a b Equal h = grind (arith, nat_tests, h)
numbers_by a b Greater h = grind (arith, nat_tests, h)

pub eq_ties : (c d : Claim) → claim_eq c d ≡ eq_by_cmp claim_cmp c d
eq_ties c d = sym (
    level_then (slice_cmp nat_cmp c.path d.path) _ ∙ ap (λ b. is_eq (slice_cmp nat_cmp c.path d.path) && b) (level_then (slice_cmp nat_cmp c.label d.label) (nat_cmp c.place d.place))
    ∙ (λ i. is_eq-slice_cmp c.path d.path i && (is_eq-slice_cmp c.label d.label i && numbers_by c.place d.place (nat_cmp c.place d.place) (ranks c.place d.place) i))
    )

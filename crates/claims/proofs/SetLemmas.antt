-- What equal actions come to, once they are sorted by label.
use Rattle.std.proofs.Common.{◌≡◌, ◌∙◌, inl, inr, ◌≤◌, ◌||◌, ◌&&◌, ◌+◌, ℕ, suc, Bool, true, false, not, List, [], ◌∷◌, length, map, get_or, Contains, Some, None, refl, sym, ap, subst, arith, if◌then◌else◌}
use Rattle.std.specs.Prelude.{nat_lt}
use Rattle.std.specs.List.{AllByRecursion, IsDistinct, list_any}
use Rattle.std.specs.List.Sorted.{IsPermutation, IsSorted}
use Rattle.std.specs.Str.{bytes_eq}
use Rattle.std.specs.Cmp.Lexicographic.{slice_cmp}
use Rattle.std.specs.Ordering.{nat_cmp, is_eq, is_lt, ordering_then, ordering_reverse}
use Rattle.std.specs.declared.cmp.Ordering.{Ordering}
use Rattle.std.specs.declared.cmp.Ordering.TheVariants.{Less, Equal, Greater}
use Rattle.std.proofs.lemmas.Bool.{true≢false}
use Rattle.std.proofs.lemmas.Bool.Decides.{nat_tests}
use Rattle.std.proofs.lemmas.Cmp.{nat_list_cmp_total}
use Rattle.std.proofs.lemmas.List.Sorted.{Contains-permutation, IsPermutation-map, IsPermutation-sym}
use Rattle.std.proofs.lemmas.Map.Keys.{IsDistinct-IsPermutation}
use Rattle.std.proofs.lemmas.Map.Text.{is_eq-slice_cmp}
use Rattle.std.proofs.lemmas.Slice.Eq.{bytes_eq-Decides}
use Rattle.actions.specs.Ascending.{Each, AreAscending}
use Rattle.claims.specs.Clashes.{some_pair}
use Rattle.claims.specs.Members.{label_of, place_of, member_cmp}
use Rattle.claims.specs.Sets.{IsSet, IsSetOf, IsSorting, set_from, some_twin}
use Rattle.claims.specs.Telling.{in_text_order}
use Rattle.claims.specs.declared.members.Member.{Member}
use Rattle.claims.specs.declared.sets.Shared.{Shared}
use Rattle.claims.proofs.InOrder.{order_is}
use Rattle.claims.proofs.Pairs.{either, neither, first_of, one_of, not_true}

-- ---- texts that are distinct

all_differ : (x : List ℕ) (xs : List (List ℕ)) → list_any (bytes_eq x) xs ≡ false → AllByRecursion (λ y. bytes_eq x y ≡ false) xs
all_differ x [] h = tt
all_differ x (y ∷ ys) h = let s = neither (bytes_eq x y) (list_any (bytes_eq x) ys) h in (s.0, all_differ x ys s.1)

none_same : (x : List ℕ) (xs : List (List ℕ)) → AllByRecursion (λ y. bytes_eq x y ≡ false) xs → list_any (bytes_eq x) xs ≡ false
none_same x [] h = refl
none_same x (y ∷ ys) h = ap (λ b. b || list_any (bytes_eq x) ys) h.0 ∙ none_same x ys h.1

pub distinct_from : (xs : List (List ℕ)) → some_pair bytes_eq xs ≡ false → IsDistinct bytes_eq xs
unfolding IsDistinct
distinct_from [] h = tt
distinct_from (x ∷ xs) h =
    let s = neither (list_any (bytes_eq x) xs) (some_pair bytes_eq xs) h in (all_differ x xs s.0, distinct_from xs s.1)

pub to_distinct : (xs : List (List ℕ)) → IsDistinct bytes_eq xs → some_pair bytes_eq xs ≡ false
unfolding IsDistinct
to_distinct [] h = refl
to_distinct (x ∷ xs) h = ap (λ b. b || some_pair bytes_eq xs) (none_same x xs h.0) ∙ to_distinct xs h.1

differ : (x y : List ℕ) → slice_cmp nat_cmp x y ≡ Less → bytes_eq x y ≡ false
differ x y l = sym (is_eq-slice_cmp x y) ∙ ap is_eq l

each_differs : (x : List ℕ) (ys : List (List ℕ)) → Each (λ y. slice_cmp nat_cmp x y ≡ Less) ys → list_any (bytes_eq x) ys ≡ false
each_differs x [] h = refl
each_differs x (y ∷ ys) h = ap (λ b. b || list_any (bytes_eq x) ys) (differ x y h.0) ∙ each_differs x ys h.1

pub ascending_distinct : (xs : List (List ℕ)) → AreAscending xs → some_pair bytes_eq xs ≡ false
ascending_distinct [] h = refl
ascending_distinct (x ∷ xs) h = ap (λ b. b || some_pair bytes_eq xs) (each_differs x xs h.0) ∙ ascending_distinct xs h.1

flip_by : (x y : List ℕ) (b : Bool) → bytes_eq x y ≡ b → bytes_eq y x ≡ b
flip_by x y true e = (bytes_eq-Decides y x).1 (sym ((bytes_eq-Decides x y).0 e))
flip_by x y false e = not_true (bytes_eq y x) (λ h. true≢false (sym ((bytes_eq-Decides x y).1 (sym ((bytes_eq-Decides y x).0 h))) ∙ e))

-- whether two are the same doesn't depend on the order
pub pair_moved : (xs ys : List (List ℕ)) → IsPermutation xs ys → some_pair bytes_eq ys ≡ false → some_pair bytes_eq xs ≡ false
pair_moved xs ys p h =
    to_distinct xs (IsDistinct-IsPermutation bytes_eq (λ x y. sym (flip_by x y (bytes_eq x y) refl)) ys xs (IsPermutation-sym xs ys p) (distinct_from ys h))

-- ---- actions in order

no_less : (r o : Ordering) → is_lt (ordering_then r o) ≡ false → is_lt r ≡ false
no_less Less o h = h
no_less Equal o h = refl
no_less Greater o h = refl

no_other : (r : Ordering) → is_lt (ordering_reverse r) ≡ false → is_eq r ≡ false → r ≡ Less
no_other Less up apart = refl
no_other Equal up apart = absurd (true≢false apart)
no_other Greater up apart = absurd (true≢false up)

next_less : (m n : Member) → is_lt (member_cmp n m) ≡ false → bytes_eq m.label n.label ≡ false → slice_cmp nat_cmp m.label n.label ≡ Less
next_less m n up apart =
    no_other (slice_cmp nat_cmp m.label n.label)
    (ap is_lt (sym (nat_list_cmp_total.antisymm n.label m.label)) ∙ no_less (slice_cmp nat_cmp n.label m.label) (nat_cmp n.place m.place) up)
    (is_eq-slice_cmp m.label n.label ∙ apart)

rest_sorted : (m : Member) (ms : List Member) → IsSorted member_cmp (m ∷ ms) → IsSorted member_cmp ms
rest_sorted m ms up k d low high =
    let next : suc k + 1 ≡ suc (k + 1) = omega arith in
    subst (λ (n : ℕ). is_lt (member_cmp (get_or (m ∷ ms) n d) (get_or ms k d)) ≡ false) next (up (suc k) d (omega arith) (omega (arith, high)))

first_sorted : (m n : Member) (ms : List Member) → IsSorted member_cmp (m ∷ n ∷ ms) → is_lt (member_cmp n m) ≡ false
first_sorted m n ms up =
    let next : 0 + 1 ≡ suc 0 = omega arith in
    subst (λ (k : ℕ). is_lt (member_cmp (get_or (m ∷ n ∷ ms) k m) m) ≡ false) next (up 0 m (omega arith) (omega arith))

each_follows : (x y : List ℕ) → slice_cmp nat_cmp x y ≡ Less → (zs : List (List ℕ)) → Each (λ z. slice_cmp nat_cmp y z ≡ Less) zs → Each (λ z. slice_cmp nat_cmp x z ≡ Less) zs
each_follows x y e [] h = tt
each_follows x y e (z ∷ zs) h = (nat_list_cmp_total.trans x y z e h.0, each_follows x y e zs h.1)

-- without twins the labels ascend
labels_ascend : (m : Member) (ms : List Member) → IsSorted member_cmp (m ∷ ms) → some_twin (Some m) ms ≡ false → AreAscending (map label_of (m ∷ ms))
labels_ascend m [] up h = (tt, tt)
labels_ascend m (n ∷ ns) up h =
    let s = neither (bytes_eq m.label n.label) (some_twin (Some n) ns) h in
    let rest = labels_ascend n ns (rest_sorted m (n ∷ ns) up) s.1 in
    let here = next_less m n (first_sorted m n ns up) s.0 in
    ((here, each_follows m.label n.label here (map label_of ns) rest.0), rest)

all_ascend : (ms : List Member) → IsSorted member_cmp ms → some_twin None ms ≡ false → AreAscending (map label_of ms)
all_ascend [] up h = tt
all_ascend (m ∷ ms) up h = labels_ascend m ms up h

twins_pair : (m : Member) (ms : List Member) → some_twin (Some m) ms ≡ true → some_pair bytes_eq (map label_of (m ∷ ms)) ≡ true
twins_pair m [] h = absurd (true≢false (sym h))
twins_pair m (n ∷ ns) h = elim (either (bytes_eq m.label n.label) (some_twin (Some n) ns) h) [
  | inl e ↦ first_of (list_any (bytes_eq m.label) (map label_of (n ∷ ns))) (some_pair bytes_eq (map label_of (n ∷ ns)))
      (first_of (bytes_eq m.label n.label) (list_any (bytes_eq m.label) (map label_of ns)) e)
  | inr e ↦ one_of (list_any (bytes_eq m.label) (map label_of (n ∷ ns))) (some_pair bytes_eq (map label_of (n ∷ ns))) (twins_pair n ns e)
]

all_twins : (ms : List Member) → some_twin None ms ≡ true → some_pair bytes_eq (map label_of ms) ≡ true
all_twins [] h = absurd (true≢false (sym h))
all_twins (m ∷ ms) h = twins_pair m ms h

and_both : (a b : Bool) → a ≡ true → b ≡ true → (a && b) ≡ true
and_both a b p q = ap (λ x. x && b) p ∙ q

and_not : (a b : Bool) → b ≡ false → (a && b) ≡ false
and_not true b h = h
and_not false b h = refl

long : (ms : List Member) → 2 ≤ length ms → nat_lt 1 (length (map label_of ms)) ≡ true
long [] h = absurd (omega (arith, h))
long (m ∷ []) h = absurd (omega (arith, h))
long (m ∷ n ∷ ms) h = nat_lt_more (length (map label_of ms))
  where
    nat_lt_more : (k : ℕ) → nat_lt 1 (suc (suc k)) ≡ true
    nat_lt_more k = grind (arith, nat_tests)

module _ (ms ss : List Member) (two : 2 ≤ length ms) (is : IsSorting ms ss) where
  set_by : (b : Bool) → some_twin None ss ≡ b → IsSetOf ms (if b then None else Some (record { places = map place_of ss; owners = map label_of ss }))
  set_by true h =
      and_not (nat_lt 1 (length (map label_of ms))) (not (some_pair bytes_eq (map label_of ms))) (ap not (moved (some_pair bytes_eq (map label_of ms)) refl))
    where
      moved : (b : Bool) → some_pair bytes_eq (map label_of ms) ≡ b → some_pair bytes_eq (map label_of ms) ≡ true
      moved true e = e
      moved false e =
          absurd (true≢false (sym (all_twins ss h)
          ∙ pair_moved (map label_of ss) (map label_of ms) (IsPermutation-map label_of ss ms (IsPermutation-sym ms ss is.permutation)) e))
  set_by false h =
      let up = all_ascend ss is.sorted h in (
        and_both (nat_lt 1 (length (map label_of ms))) (not (some_pair bytes_eq (map label_of ms))) (long ms two)
            (ap not (pair_moved (map label_of ms) (map label_of ss) (IsPermutation-map label_of ms ss is.permutation) (ascending_distinct (map label_of ss) up))),
        record { order = ss; permutation = is.permutation; places = refl; owners = refl; ascending = up },
      )

  pub set_is : IsSetOf ms (set_from ss)
  set_is = set_by (some_twin None ss) refl

-- the owners of a set are those of its actions, in order
pub owners_in_order : (ms : List Member) (s : Shared) → IsSet ms s → s.owners ≡ in_text_order (map label_of ms)
owners_in_order ms s h =
    let moved = IsPermutation-map label_of ms h.order h.permutation in
    order_is s.owners (map label_of ms) h.ascending
    (λ z g. Contains-permutation (map label_of h.order) (map label_of ms) z (IsPermutation-sym (map label_of ms) (map label_of h.order) moved) (subst (λ l. Contains l z) h.owners g))
    (λ z g. subst (λ l. Contains l z) (sym h.owners) (Contains-permutation (map label_of ms) (map label_of h.order) z moved g))

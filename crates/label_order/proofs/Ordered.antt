-- Labels that are put in the order of their texts.
use Rattle.std.proofs.Common.{◌≡◌, ◌∙◌, ℕ, ◌+◌, ◌<◌, Bool, true, false, List, [], ◌∷◌, ◌++◌, length, map, get_or, All, Contains, sym, ap, subst, refl, arith, true≢false}
use Rattle.std.specs.Prelude.{bytes_eq}
use Rattle.std.specs.Borrow.{Bor}
use Rattle.std.specs.List.{range_with_len, IsDistinct, AllByRecursion}
use Rattle.std.specs.List.Sorted.{IsPermutation, IsSorted}
use Rattle.std.specs.Cmp.Lexicographic.{slice_cmp}
use Rattle.std.specs.Ordering.{nat_cmp, is_lt, ordering_then}
use Rattle.std.specs.declared.cmp.Ordering.{Ordering}
use Rattle.std.specs.declared.cmp.Ordering.TheVariants.{Less, Equal, Greater}
use Rattle.std.proofs.lemmas.Cmp.{nat_list_eq_equiv}
use Rattle.std.proofs.lemmas.List.{get_or-map, length-map}
use Rattle.std.proofs.lemmas.List.Elements.{All-map, All-push, All-contains, Contains-get_or, recursion_from_All}
use Rattle.std.proofs.lemmas.List.FromFn.{fill_by_all, map-range_with_len_more, length-range_with_len, length-map-range_with_len, get_or-range_with_len}
use Rattle.std.proofs.lemmas.List.Sorted.{IsPermutation-map, IsPermutation-sym, Contains-permutation, length_permutation}
use Rattle.std.proofs.lemmas.Map.Keys.{IsDistinct-head, IsDistinct-tail, IsDistinct-IsPermutation}
use Rattle.std.proofs.lemmas.Slice.Eq.{bytes_eq-Decides}
use Rattle.workspace.specs.Labels.{LabelParts, is_label, label_text, same_label}
use Rattle.graph.specs.Same.{label_at, no_label, same_label-decides}
use Rattle.actions.specs.Ascending.{AreAscending}
use Rattle.actions.proofs.Ascending.{sorted_ascends}
use Rattle.label_order.specs.Ordered.{Entry, entry_seen, entries, Keyed, keyed_seen, IsKeyed, AreInOrder}
use Rattle.outcomes.proofs.Owners.{texts_apart}

-- ---- the entries of all nodes

label_of : Entry → LabelParts
label_of e = e.0

text_of : Entry → List ℕ
text_of e = label_text e.0

pub map_twice : {A B C : Type 0} (f : A → B) (g : B → C) (xs : List A) → map g (map f xs) ≡ map (λ x. g (f x)) xs
map_twice f g [] = refl
map_twice f g (x ∷ xs) = ap (λ l. g (f x) ∷ l) (map_twice f g xs)

labels_are : (labels : List LabelParts) → map (λ (e : Entry). e.0) (entries labels) ≡ labels
labels_are labels =
    map_twice (λ (n : ℕ). (label_at labels n, n)) (λ (e : Entry). e.0) (range_with_len 0 (length labels))
    ∙ sym (fill_by_all (label_at labels) labels (length labels) no_label refl (λ k low. refl))

is_entry : List LabelParts → Entry → Type 0
is_entry labels e = (e.1 < length labels) × (label_at labels e.1 ≡ e.0)

are_entries : (labels : List LabelParts) → All (λ (e : Entry). (e.1 < length labels) × (label_at labels e.1 ≡ e.0)) (entries labels)
are_entries labels =
    All-map (λ (e : Entry). (e.1 < length labels) × (label_at labels e.1 ≡ e.0)) (λ (n : ℕ). (label_at labels n, n)) (range_with_len 0 (length labels))
    (λ k d low.
    let size = length-range_with_len 0 (length labels) in
    let at = get_or-range_with_len 0 (length labels) k d (omega (arith, low, size)) in
    (omega (arith, low, size, at), refl))

map_behind : {A B : Type 0} (f : A → B) (xs : List A) (x : A) → map f (xs ++ x ∷ []) ≡ map f xs ++ f x ∷ []
map_behind f [] x = refl
map_behind f (y ∷ xs) x = ap (λ l. f y ∷ l) (map_behind f xs x)

-- another entry behind those of the nodes before it
pub one_more : (labels : List LabelParts) (old new : List Keyed) (x : Keyed) (n : ℕ) → new ≡ old ++ x ∷ [] → x.1.1 ≡ n → x.1.0.now ≡ label_at labels n → IsKeyed x
    → (map keyed_seen old ≡ map (λ m. (label_at labels m, m)) (range_with_len 0 n)) × All IsKeyed old
    → (map keyed_seen new ≡ map (λ m. (label_at labels m, m)) (range_with_len 0 (n + 1))) × All IsKeyed new
one_more labels old new x n grown at is keyed before =
    let seen : keyed_seen x ≡ (label_at labels n, n) = λ i. (is i, at i) in (
      ap (map keyed_seen) grown ∙ map_behind keyed_seen old x
          ∙ ap (λ l. l ++ keyed_seen x ∷ []) before.0
          ∙ ap (λ e. map (λ m. (label_at labels m, m)) (range_with_len 0 n) ++ e ∷ []) seen
          ∙ sym (map-range_with_len_more (λ m. (label_at labels m, m)) 0 n n (omega arith)),
      subst (All IsKeyed) (sym grown) (All-push IsKeyed old x before.1 keyed),
    )

-- ---- no two texts are the same

differs : (x y : LabelParts) → is_label x ≡ true → is_label y ≡ true → same_label x y ≡ false → bytes_eq (label_text x) (label_text y) ≡ false
differs x y p q apart = at (bytes_eq (label_text x) (label_text y)) refl
  where
    at : (b : Bool) → bytes_eq (label_text x) (label_text y) ≡ b → bytes_eq (label_text x) (label_text y) ≡ false
    at false e = e
    at true e =
        let same = (same_label-decides x y).1 (texts_apart x y p q ((bytes_eq-Decides (label_text x) (label_text y)).0 e)) in
        absurd (true≢false (sym same ∙ apart))

each_differs : (x : LabelParts) (ys : List LabelParts) → is_label x ≡ true → AllByRecursion (λ y. is_label y ≡ true) ys → AllByRecursion (λ y. same_label x y ≡ false) ys
    → AllByRecursion (λ t. bytes_eq (label_text x) t ≡ false) (map label_text ys)
each_differs x [] p ps apart = tt
each_differs x (y ∷ ys) p ps apart = (differs x y p ps.0 apart.0, each_differs x ys p ps.1 apart.1)

texts_distinct : (ls : List LabelParts) → AllByRecursion (λ y. is_label y ≡ true) ls → IsDistinct same_label ls → IsDistinct bytes_eq (map label_text ls)
unfolding IsDistinct
texts_distinct [] ps d = tt
texts_distinct (x ∷ xs) ps d = (each_differs x xs ps.0 ps.1 (IsDistinct-head same_label x xs d), texts_distinct xs ps.1 (IsDistinct-tail same_label x xs d))

-- ---- sorted

-- by text, and then as entries
abbrev pub keyed_cmp : Keyed → Keyed → Ordering
keyed_cmp x y = ordering_then (slice_cmp nat_cmp x.0.now y.0.now)
    (ordering_then (slice_cmp nat_cmp (label_text x.1.0.now) (label_text y.1.0.now)) (nat_cmp x.1.1 y.1.1))

first_decides : (a b : Ordering) → is_lt (ordering_then a b) ≡ false → is_lt a ≡ false
first_decides Less b h = h
first_decides Equal b h = refl
first_decides Greater b h = refl

abbrev pub seen_text : Bor LabelParts × ℕ → List ℕ
seen_text e = label_text e.0.now

abbrev pub key_text : Keyed → List ℕ
key_text k = k.0.now

abbrev pub entry_of : Keyed → Bor LabelParts × ℕ
entry_of k = k.1

keys_sorted : (ks : List Keyed) → IsSorted keyed_cmp ks → IsSorted (slice_cmp nat_cmp) (map key_text ks)
keys_sorted [] up k d low high = absurd (omega (arith, high))
keys_sorted (e ∷ es) up k d low high =
    let size = length-map (e ∷ es) key_text in
    let x = get_or (e ∷ es) (k + 1) e in
    let y = get_or (e ∷ es) k e in
    let p = get_or-map key_text (e ∷ es) (k + 1) e d (omega (arith, high, size)) in
    let q = get_or-map key_text (e ∷ es) k e d (omega (arith, high, size)) in
    ap (λ t. is_lt (slice_cmp nat_cmp t (get_or (map key_text (e ∷ es)) k d))) p ∙ ap (λ t. is_lt (slice_cmp nat_cmp (key_text x) t)) q
    ∙ first_decides (slice_cmp nat_cmp (key_text x) (key_text y)) (ordering_then (slice_cmp nat_cmp (label_text x.1.0.now) (label_text y.1.0.now)) (nat_cmp x.1.1 y.1.1)) (up k e low (omega (arith, high, size)))

own_texts : (ks : List Keyed) → AllByRecursion IsKeyed ks → map key_text ks ≡ map seen_text (map entry_of ks)
own_texts [] h = refl
own_texts (k ∷ ks) h = λ i. h.0.1 i ∷ own_texts ks h.1 i

all_back : {A B : Type 0} (f : A → B) (P : B → Type 0) (xs : List A) → All P (map f xs) → All (λ x. P (f x)) xs
all_back f P xs h k d low = let size = length-map xs f in subst P (get_or-map f xs k d (f d) low) (h k (f d) (omega (arith, low, size)))

-- ---- together

module _ (labels : List LabelParts) (before after : List (Bor LabelParts × ℕ)) (all : map entry_seen before ≡ entries labels) (legal : All (λ e. is_label e.0.now ≡ true) before)
    (moved : IsPermutation before after) where
  shuffled : IsPermutation (map entry_seen before) (map entry_seen after)
  shuffled = IsPermutation-map entry_seen before after moved

  are_numbered : All (λ (e : Entry). (e.1 < length labels) × (label_at labels e.1 ≡ e.0)) (map entry_seen after)
  are_numbered k d low =
      All-contains (λ (e : Entry). (e.1 < length labels) × (label_at labels e.1 ≡ e.0)) (map entry_seen before) (get_or (map entry_seen after) k d)
      (subst (All (λ (e : Entry). (e.1 < length labels) × (label_at labels e.1 ≡ e.0))) (sym all) (are_entries labels))
      (Contains-permutation (map entry_seen after) (map entry_seen before) (get_or (map entry_seen after) k d)
      (IsPermutation-sym (map entry_seen before) (map entry_seen after) shuffled)
      (Contains-get_or (map entry_seen after) k d low))

  -- the numbers are those of nodes
  pub within : All (λ e. e.1 < length labels) after
  within k d low =
      let at = all_back entry_seen (λ (e : Entry). (e.1 < length labels) × (label_at labels e.1 ≡ e.0)) after are_numbered k d low in
      at.0

  firsts_are : map (λ (e : Entry). e.0) (map entry_seen before) ≡ labels
  firsts_are = ap (map (λ (e : Entry). e.0)) all ∙ labels_are labels

  labels_legal : AllByRecursion (λ l. is_label l ≡ true) labels
  labels_legal =
      let seen : All (λ l. is_label l ≡ true) (map (λ (e : Bor LabelParts × ℕ). e.0.now) before) = All-map (λ l. is_label l ≡ true) (λ (e : Bor LabelParts × ℕ). e.0.now) before legal in
      let same = sym (map_twice entry_seen (λ (e : Entry). e.0) before) ∙ firsts_are in
      recursion_from_All (λ l. is_label l ≡ true) labels (subst (All (λ l. is_label l ≡ true)) same seen)

  texts_are : map (λ (e : Entry). label_text e.0) (map entry_seen before) ≡ map label_text labels
  texts_are = sym (map_twice (λ (e : Entry). e.0) label_text (map entry_seen before)) ∙ ap (map label_text) firsts_are

  texts_ascend : IsSorted (slice_cmp nat_cmp) (map seen_text after) → IsDistinct same_label labels → AreAscending (map (λ (e : Entry). label_text e.0) (map entry_seen after))
  texts_ascend up apart =
      let ts = map (λ (e : Entry). label_text e.0) (map entry_seen after) in
      sorted_ascends ts
      (subst (IsSorted (slice_cmp nat_cmp)) (sym (map_twice entry_seen (λ (e : Entry). label_text e.0) after)) up)
      (IsDistinct-IsPermutation bytes_eq nat_list_eq_equiv.symm (map label_text labels) ts
      (subst (λ l. IsPermutation l ts) texts_are (IsPermutation-map (λ (e : Entry). label_text e.0) (map entry_seen before) (map entry_seen after) shuffled))
      (texts_distinct labels labels_legal apart))

  there : (l : LabelParts) → Contains (map (λ (e : Entry). e.0) (map entry_seen after)) l → Contains labels l
  there l h =
      subst (λ ls. Contains ls l) firsts_are
      (Contains-permutation (map (λ (e : Entry). e.0) (map entry_seen after)) (map (λ (e : Entry). e.0) (map entry_seen before)) l
      (IsPermutation-map (λ (e : Entry). e.0) (map entry_seen after) (map entry_seen before) (IsPermutation-sym (map entry_seen before) (map entry_seen after) shuffled)) h)

  back : (l : LabelParts) → Contains labels l → Contains (map (λ (e : Entry). e.0) (map entry_seen after)) l
  back l h =
      Contains-permutation (map (λ (e : Entry). e.0) (map entry_seen before)) (map (λ (e : Entry). e.0) (map entry_seen after)) l
      (IsPermutation-map (λ (e : Entry). e.0) (map entry_seen before) (map entry_seen after) shuffled)
      (subst (λ ls. Contains ls l) (sym firsts_are) h)

  pub in_order : IsSorted (slice_cmp nat_cmp) (map seen_text after) → IsDistinct same_label labels → AreInOrder labels (map entry_seen after)
  in_order up apart = record {
    size =
        length_permutation (map entry_seen before) (map entry_seen after) shuffled ∙ ap length all
        ∙ length-map-range_with_len (λ n. (label_at labels n, n)) 0 (length labels);
    all = λ l. (there l, back l);
    ordered = texts_ascend up apart;
    numbered = are_numbered;
  }

-- ---- what is sorted are the texts with the entries

module _ (labels : List LabelParts) (before after : List Keyed) (es : List (Bor LabelParts × ℕ)) (all : map keyed_seen before ≡ entries labels) (keyed : All IsKeyed before)
    (moved : IsPermutation before after) (made : es ≡ map entry_of after) where
  all_entries : map entry_seen (map entry_of before) ≡ entries labels
  all_entries = map_twice entry_of entry_seen before ∙ all

  all_legal : All (λ e. is_label e.0.now ≡ true) (map entry_of before)
  all_legal = All-map (λ e. is_label e.0.now ≡ true) entry_of before (λ k d low. let at = keyed k d low in at.0)

  moved_entries : IsPermutation (map entry_of before) es
  moved_entries = subst (IsPermutation (map entry_of before)) (sym made) (IsPermutation-map entry_of before after moved)

  keyed_after : All IsKeyed after
  keyed_after k d low =
      All-contains IsKeyed before (get_or after k d) keyed
      (Contains-permutation after before (get_or after k d) (IsPermutation-sym before after moved) (Contains-get_or after k d low))

  pub keyed_within : All (λ e. e.1 < length labels) es
  keyed_within = within labels (map entry_of before) es all_entries all_legal moved_entries

  pub keyed_in_order : IsSorted keyed_cmp after → IsDistinct same_label labels → AreInOrder labels (map entry_seen es)
  keyed_in_order up apart =
      in_order labels (map entry_of before) es all_entries all_legal moved_entries
      (subst (IsSorted (slice_cmp nat_cmp)) (own_texts after (recursion_from_All IsKeyed after keyed_after) ∙ ap (map seen_text) (sym made)) (keys_sorted after up))
      apart

-- What growing nodes keep.
use Rattle.std.proofs.Common.{◌≡◌, ℕ, zero, suc, ◌+◌, ◌<◌, inl, inr, Bool, true, false, ◌||◌, List, [], ◌∷◌, ◌++◌, length, get_or, map, take, sym, ap, ◌∙◌, subst, arith, refl, true≢false, eqb-true, length-append, add-one, Decides}
use Rattle.std.specs.Prelude.{position, Some}
use Rattle.std.specs.List.{list_any, IsDistinct}
use Rattle.std.specs.Cmp.{decided}
use Rattle.std.proofs.lemmas.List.{append-nil, append_assoc, map-append, get_or_append_left}
use Rattle.std.proofs.lemmas.List.Folds.{list_any-append}
use Rattle.std.proofs.lemmas.List.Quantifiers.{position-Some}
use Rattle.std.proofs.lemmas.Map.Keys.{IsDistinct-push}
use Rattle.edges.specs.Rows.{has}
use Rattle.edges.proofs.Tests.{either, or_left, or_right, or_none}
use Rattle.edges.proofs.Lists.{has-append, has-one, has-head, has-later}
use Rattle.graph.specs.Numbering.{Grown, AreNumbers}

module _ {L : Type 0} (same : L → L → Bool) (decides : (a b : L) → Decides (same a b) (a ≡ b)) where
  abbrev pub is_in : List L → L → Bool
  is_in xs x = list_any (same x) xs

  pub grown_same : (xs from : List L) → Grown same xs from xs
  grown_same xs from = record { kept = ([], sym (append-nil xs)); each = λ x h. inl h; distinct = λ d. d }

  pub grown_to : (old new from : List L) → new ≡ old → Grown same old from new
  grown_to old new from e = subst (λ xs. Grown same old from xs) (sym e) (grown_same old from)

  -- by one that had no place
  pub grown_push : (old new : List L) (x : L) → is_in old x ≡ false → new ≡ old ++ x ∷ [] → Grown same old (x ∷ []) new
  grown_push old new x fresh e = record {
    kept = (x ∷ [], e);
    each = λ y h.
        let split : (is_in old y || is_in (x ∷ []) y) ≡ true = sym (list_any-append (same y) old (x ∷ [])) ∙ ap (λ xs. is_in xs y) (sym e) ∙ h in
        either (is_in old y) (is_in (x ∷ []) y) split;
    distinct = λ d. subst (IsDistinct same) (sym e) (IsDistinct-push (decided same decides) old x d fresh);
  }

  pub grown_then : (xs ys zs from next all : List L) → Grown same xs from ys → Grown same ys next zs → ((x : L) → is_in from x ≡ true → is_in all x ≡ true) → ((x : L) → is_in next x ≡ true → is_in all x ≡ true)
      → Grown same xs all zs
  grown_then xs ys zs from next all g h one two = record {
    kept = (g.kept.0 ++ h.kept.0, h.kept.1 ∙ ap (λ l. l ++ h.kept.0) g.kept.1 ∙ append_assoc xs g.kept.0 h.kept.0);
    each = λ x there. elim (h.each x there) [
      | inl before ↦ elim (g.each x before) [ inl old ↦ inl old | inr f ↦ inr (one x f) ]
      | inr f ↦ inr (two x f)
    ];
    distinct = λ d. h.distinct (g.distinct d);
  }

  -- ---- numbers of nodes

  module _ (none : L) where
    abbrev pub node_at : List L → ℕ → L
    node_at nodes n = get_or nodes n none

    -- a place stays
    pub place_kept : (old new from : List L) (n : ℕ) → Grown same old from new → n < length old → (n < length new) × (node_at new n ≡ node_at old n)
    place_kept old new from n g low =
        let e = g.kept.1 in
        let more = length-append old g.kept.0 in
        let size : length new ≡ length old + length g.kept.0 = ap length e ∙ more in
        (omega (arith, low, size), ap (λ xs. node_at xs n) e ∙ get_or_append_left old g.kept.0 none n low)

    names_kept : (old new from : List L) (numbers : List ℕ) → Grown same old from new → ((n : ℕ) → has numbers n ≡ true → n < length old) → map (node_at new) numbers ≡ map (node_at old) numbers
    names_kept old new from [] g inside = refl
    names_kept old new from (n ∷ ns) g inside =
        let here : node_at new n ≡ node_at old n = (place_kept old new from n g (inside n (has-head n ns))).1 in
        let later : map (node_at new) ns ≡ map (node_at old) ns = names_kept old new from ns g (λ m h. inside m (has-later n ns m h)) in
        cc

    pub numbers_kept : (old new from named : List L) (numbers : List ℕ) → Grown same old from new → AreNumbers none old named numbers → AreNumbers none new named numbers
    numbers_kept old new from named numbers g are = record {
      inside = λ n h. (place_kept old new from n g (are.inside n h)).0;
      names = names_kept old new from numbers g are.inside ∙ are.names;
    }

    pub numbers_push : (nodes named : List L) (numbers : List ℕ) (n : ℕ) (d : L) → AreNumbers none nodes named numbers → n < length nodes → node_at nodes n ≡ d → AreNumbers none nodes (named ++ d ∷ []) (numbers ++ n ∷ [])
    numbers_push nodes named numbers n d are low is = record {
      inside = λ m h. elim (either (has numbers m) (has (n ∷ []) m) (sym (has-append numbers (n ∷ []) m) ∙ h)) [
        | inl before ↦ are.inside m before
        | inr last ↦ let e = eqb-true m n (sym (has-one n m) ∙ last) in omega (arith, e, low)
      ];
      names = map-append (node_at nodes) numbers (n ∷ []) ∙ ap (λ xs. xs ++ node_at nodes n ∷ []) are.names ∙ ap (λ x. named ++ x ∷ []) is;
    }

    take_more : (xs : List L) (i : ℕ) (d : L) → i < length xs → take (i + 1) xs ≡ take i xs ++ get_or xs i d ∷ []
    take_more xs i d low = ap (λ n. take n xs) (add-one i) ∙ go xs i low
      where
        go : (xs : List L) (i : ℕ) → i < length xs → take (suc i) xs ≡ take i xs ++ get_or xs i d ∷ []
        go [] i low = absurd (omega (arith, low))
        go (x ∷ xs) zero low = refl
        go (x ∷ xs) (suc i) low = ap (λ l. x ∷ l) (go xs i (omega (arith, low)))

    own : (x : L) → same x x ≡ true
    own x = (decides x x).1 refl

    pub is_in-at : (xs : List L) (i : ℕ) (d : L) → i < length xs → is_in xs (get_or xs i d) ≡ true
    is_in-at [] i d low = absurd (omega (arith, low))
    is_in-at (x ∷ xs) zero d low = or_left (same x x) (is_in xs x) (own x)
    is_in-at (x ∷ xs) (suc i) d low = or_right (same (get_or xs i d) x) (is_in xs (get_or xs i d)) (is_in-at xs i d (omega (arith, low)))

    pub one_in : (xs : List L) (i : ℕ) (d : L) → i < length xs → (x : L) → is_in (get_or xs i d ∷ []) x ≡ true → is_in xs x ≡ true
    one_in xs i d low x h =
        let e : x ≡ get_or xs i d = (decides x (get_or xs i d)).0 (sym (or_none (same x (get_or xs i d))) ∙ h) in
        subst (λ y. is_in xs y ≡ true) (sym e) (is_in-at xs i d low)

    -- one node more of a list has its number
    pub grown_next : (first old new list : List L) (i : ℕ) (x : L) → i < length list → x ≡ get_or list i x → Grown same first list old → Grown same old (x ∷ []) new → Grown same first list new
    grown_next first old new list i x low is g h =
        grown_then first old new list (x ∷ []) list g h (λ y there. there) (λ y there. one_in list i x low y (subst (λ z. is_in (z ∷ []) y ≡ true) is there))

    pub numbers_next : (old new list : List L) (numbers more : List ℕ) (i n : ℕ) (x : L) → i < length list → x ≡ get_or list i x → Grown same old (x ∷ []) new → AreNumbers none old (take i list) numbers → n < length new → node_at new n ≡ x
        → more ≡ numbers ++ n ∷ [] → AreNumbers none new (take (i + 1) list) more
    numbers_next old new list numbers more i n x low is h are inside at e =
        subst (AreNumbers none new (take (i + 1) list)) (sym e)
        (subst (λ named. AreNumbers none new named (numbers ++ n ∷ [])) (sym (take_more list i x low))
        (numbers_push new (take i list) numbers n (get_or list i x) (numbers_kept old new (x ∷ []) (take i list) numbers h are) inside (at ∙ is)))

    pub no_numbers : (nodes : List L) → AreNumbers none nodes [] []
    no_numbers nodes = record { inside = λ n h. absurd (true≢false (sym h)); names = refl }

    -- the number that a search finds
    pub number_found : (nodes keys : List L) (wanted x : L) (found n : ℕ) → keys ≡ nodes → wanted ≡ x → n ≡ found → position (same wanted) keys ≡ Some found → node_at nodes n ≡ x
    number_found nodes keys wanted x found n is same_as at e =
        let there : same wanted (node_at keys found) ≡ true = (position-Some (same wanted) keys found none e).1 in
        ap (node_at nodes) at ∙ ap (λ xs. node_at xs found) (sym is) ∙ sym ((decides wanted (node_at keys found)).0 there) ∙ same_as

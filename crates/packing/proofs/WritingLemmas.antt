-- An input that grows by a file.
use Rattle.std.proofs.Common.{◌≡◌, ◌≢◌, ◌∙◌, ◌⊎◌, ◌<◌, ◌≤◌, ◌+◌, ◌++◌, ℕ, suc, Bool, true, false, List, [], ◌∷◌, length, refl, ap, ap₂, sym, subst, inl, inr, arith, drop, take, get_or, length-append, length-drop, lit<}
use Rattle.std.specs.Prelude.{All, Contains, IfOk, IsUtf8, Option, Some, None, Result, Ok, Err, if◌then◌else◌, nat_lt, min, not, cond, ◌^◌, ◌-◌}
use Rattle.std.specs.declared.cmp.Ordering.{Ordering}
use Rattle.std.specs.declared.cmp.Ordering.TheVariants.{Less, Equal, Greater}
use Rattle.std.specs.Cmp.Lexicographic.{slice_cmp}
use Rattle.std.specs.List.{AllByRecursion, IsDistinct, count_by, list_all}
use Rattle.std.specs.List.Sorted.{IsPermutation, IsSorted, IsStrictlySortedBy}
use Rattle.std.specs.Ordering.{is_eq, is_lt, nat_cmp, ordering_then}
use Rattle.std.specs.Str.{bytes_eq}
use Rattle.std.specs.Cmp.Derive.{both_true}
use Rattle.std.proofs.lemmas.List.{get_or-take, get_or_default, length-take-le, map-append, take_all, take_more}
use Rattle.std.proofs.Math.Seq.{drop-cons}
use Rattle.std.proofs.lemmas.List.Elements.{All-contains, All-head, All-nil, All-push, All-tail, All-weaker, Contains-append_left, Contains-get_or, Contains-push, Contains-push_cases}
use Rattle.std.proofs.lemmas.List.Folds.{list_all-append}
use Rattle.std.proofs.lemmas.List.Sorted.{All-permutation, Contains-permutation}
use Rattle.std.proofs.lemmas.List.Sums.{sum_by-append}
use Rattle.std.proofs.lemmas.Map.Keys.{Less-from_sorted}
use Rattle.std.proofs.lemmas.Map.Text.{is_eq-slice_cmp}
use Rattle.std.proofs.lemmas.Str.{IsUtf8-append, IsUtf8-nil}
use Rattle.json.proofs.Printed.Utf8.{IsUtf8-are_ascii}
use Rattle.request.specs.Input.{Spells, input_limit}
use Rattle.workspace.specs.FileKinds.{is_build_file, is_module}
use Rattle.workspace.specs.Workspaces.{IsWorkspace, Pair, is_file, paths_of}
use Rattle.packing.specs.Folders.{At, IsFound, Node, Reaches, file, folder, link, shut_file, shut_folder, special, unread}
use Rattle.packing.specs.Inputs.{begun_text, comma, input_text, pair_text}
use Rattle.packing.specs.Packs.{AreAscending, AreInOrder, HasCause, Holds, IsNamed, IsOf, IsTold, Packs, counts_of, how_many, is_bazel_file, is_used}
use Rattle.packing.specs.Walks.{IsWalked}
use Rattle.packing.specs.Writing.{ArePacked, AreTooMuch, Exceeds, Leaves, Puts, Takes, Written, counted_too, one_more}
use Rattle.packing.specs.declared.leaving.LeftOut.{LeftOut}
use Rattle.packing.specs.declared.leaving.Reason.{Reason}
use Rattle.packing.specs.declared.leaving.Reason.TheVariants as kinds
use Rattle.packing.specs.declared.whole.PackStop.{PackStop}
use Rattle.packing.specs.declared.whole.Packed.{Packed}
use Rattle.packing.specs.declared.walk.Walk.{Walk}
use Rattle.packing.specs.declared.writing.Writing.{Writing}
use Rattle.packing.specs.declared.writing.WriteStop.{WriteStop}
use Rattle.packing.proofs.WalkLemmas.{reaches-comes}
use Rattle.packing.proofs.InputTexts.{begun-closed, begun-nil, begun-push, text_spells}

abbrev order : List ℕ → List ℕ → Ordering
order = slice_cmp nat_cmp

-- ---- paths that ascend

last_by_recursion : (P : List ℕ → Type 0) (xs : List (List ℕ)) (y : List ℕ) → AllByRecursion P xs → P y → AllByRecursion P (xs ++ y ∷ [])
last_by_recursion P [] y h last = (last, tt)
last_by_recursion P (x ∷ xs) y h last = (h.0, last_by_recursion P xs y h.1 last)

pub ascending-push : (xs : List (List ℕ)) (y : List ℕ) → AreAscending xs → All (λ x. order x y ≡ Less) xs → AreAscending (xs ++ y ∷ [])
unfolding IsStrictlySortedBy
ascending-push [] y h below = (tt, tt)
ascending-push (x ∷ xs) y h below =
    (last_by_recursion (λ z. order x z ≡ Less) xs y h.0 (All-head (λ z. order z y ≡ Less) x xs below), ascending-push xs y h.1 (All-tail (λ z. order z y ≡ Less) x xs below))

differ : (x y : List ℕ) → order x y ≡ Less → bytes_eq x y ≡ false
differ x y less = sym (is_eq-slice_cmp x y) ∙ ap is_eq less

each_differs : (x : List ℕ) (xs : List (List ℕ)) → AllByRecursion (λ y. order x y ≡ Less) xs → AllByRecursion (λ y. bytes_eq x y ≡ false) xs
each_differs x [] h = tt
each_differs x (y ∷ ys) h = (differ x y h.0, each_differs x ys h.1)

pub ascending-distinct : (xs : List (List ℕ)) → AreAscending xs → IsDistinct bytes_eq xs
unfolding IsStrictlySortedBy IsDistinct
ascending-distinct [] h = tt
ascending-distinct (x ∷ xs) h = (each_differs x xs h.0, ascending-distinct xs h.1)

-- ---- one file more

pub takes-put : (at : At) (path text : List ℕ) (old : Writing) (r : Result Writing WriteStop)
    → IfOk r (λ w. w.input.items ≡ old.input.items ++ (comma old.input.items ++ pair_text (path, text)))
    → IfOk r (λ _. IsUtf8 (pair_text (path, text))) → IfOk r (λ w. length w.input.items < input_limit) → IfOk r (λ w. w.left ≡ old.left)
    → IfOk r (λ w. w.counts ≡ counted_too path old.counts)
    → is_file (path, text) ≡ true → IsOf (at path) (path, text) → is_bazel_file path ≡ false → IfOk r (Takes at path old)
takes-put at path text old (Err e) input utf8 limit left counted legal of served = tt
takes-put at path text old (Ok w) input utf8 limit left counted legal of served = record {
  taken = λ pairs begun. inl (record {
    text = text;
    begun = input ∙ ap (λ i. i ++ (comma i ++ pair_text (path, text))) begun ∙ sym (begun-push pairs (path, text));
    limit = limit;
    file = legal;
    of = of;
    served = served;
    left = ap (λ l. l.items) left;
    counted = counted;
  });
  utf8 = λ h.
      subst IsUtf8 (sym input) (IsUtf8-append old.input.items (comma old.input.items ++ pair_text (path, text)) h
      (IsUtf8-append (comma old.input.items) (pair_text (path, text)) (comma_utf8 (nat_lt 1 (length old.input.items))) utf8));
}
  where
    comma_utf8 : (b : Bool) → IsUtf8 (if b then 44 ∷ [] else [])
    comma_utf8 true = IsUtf8-are_ascii (44 ∷ []) refl
    comma_utf8 false = IsUtf8-nil

-- the file is left out
pub takes-left : (at : At) (path : List ℕ) (reason : Reason) (old : Writing) (r : Result Writing WriteStop)
    → IfOk r (λ w. w.input ≡ old.input) → IfOk r (λ w. w.left.items ≡ old.left.items ++ record { path = path; reason = reason } ∷ [])
    → IfOk r (λ w. w.counts ≡ old.counts) → Holds at path reason → reason ≢ kinds.NamesNotUtf8 → IsFound at path → IfOk r (Takes at path old)
takes-left at path reason old (Err e) input left counted holds itself found = tt
takes-left at path reason old (Ok w) input left counted holds itself found = record {
  taken = λ pairs begun. inr (record {
    input = ap (λ v. v.items) input;
    named = record { path = path; reason = reason };
    names = (refl, itself);
    left = left;
    cause = (holds, λ k. reaches-comes at path (found.1 k));
    counted = counted;
  });
  utf8 = λ h. subst (λ v. IsUtf8 v.items) (sym input) h;
}

list_all-push : (ps : List Pair) (p : Pair) → list_all is_file ps ≡ true → is_file p ≡ true → list_all is_file (ps ++ p ∷ []) ≡ true
list_all-push ps p all last = list_all-append is_file ps (p ∷ []) ∙ both_true all (both_true last refl)

-- the paths before a path in order are below it
before_is_below : (keys : List (List ℕ)) (i : ℕ) (d x : List ℕ) → AreAscending keys → i < length keys → Contains (take i keys) x
    → order x (get_or keys i d) ≡ Less
before_is_below keys i d x ascending lt h =
    let within : h.0 < i = omega (arith, h.1, length-take-le i keys) in
    let at : get_or keys h.0 x ≡ x = sym (get_or-take i keys h.0 x within) ∙ h.2 in
    sym (ap₂ order at (get_or_default keys i x d lt)) ∙ Less-from_sorted order keys h.0 i x ascending within lt

abbrev is_served : Pair → Type 0
is_served p = is_bazel_file p.0 ≡ false

packed-push : (at : At) (keys : List (List ℕ)) (i : ℕ) (d : List ℕ) (ps : List Pair) (text : List ℕ) → AreAscending keys → i < length keys
    → All (Contains (take i keys)) (paths_of ps) → ArePacked at ps → is_file (get_or keys i d, text) ≡ true
    → IsOf (at (get_or keys i d)) (get_or keys i d, text) → is_bazel_file (get_or keys i d) ≡ false
    → ArePacked at (ps ++ (get_or keys i d, text) ∷ [])
packed-push at keys i d ps text ascending lt within packed legal of served = record {
  files = list_all-push ps (get_or keys i d, text) packed.files legal;
  ascending = subst AreAscending (sym (map-append (λ (p : Pair). p.0) ps ((get_or keys i d, text) ∷ [])))
      (ascending-push (paths_of ps) (get_or keys i d) packed.ascending
      (All-weaker (Contains (take i keys)) (λ x. order x (get_or keys i d) ≡ Less) (λ x h. before_is_below keys i d x ascending lt h) (paths_of ps) within));
  of = All-push (λ (p : Pair). IsOf (at p.0) p) ps (get_or keys i d, text) packed.of of;
  served = All-push is_served ps (get_or keys i d, text) packed.served served;
}

paths-push : (ps : List Pair) (path text : List ℕ) → paths_of (ps ++ (path, text) ∷ []) ≡ paths_of ps ++ path ∷ []
paths-push ps path text = map-append (λ (p : Pair). p.0) ps ((path, text) ∷ [])

-- a path more is counted
one_counted : (f : List ℕ → Bool) (x : List ℕ) (b : Bool) → f x ≡ b → count_by f (x ∷ []) ≡ cond b 1 0
one_counted f x true e = rw e refl
one_counted f x false e = rw e refl

one_more-min : (b : Bool) (n m : ℕ) → m ≡ n + cond b 1 0 → one_more b (min n (2 ^ 64 - 1)) ≡ min m (2 ^ 64 - 1)
one_more-min true n m e = omega (arith, e)
one_more-min false n m e = omega (arith, e)

how_many-push : (f : List ℕ → Bool) (xs : List (List ℕ)) (x : List ℕ) → one_more (f x) (how_many f xs) ≡ how_many f (xs ++ x ∷ [])
how_many-push f xs x =
    let whole : count_by f (xs ++ x ∷ []) ≡ count_by f xs + count_by f (x ∷ []) = sum_by-append (λ y. cond (f y) 1 0) xs (x ∷ []) in
    one_more-min (f x) (count_by f xs) (count_by f (xs ++ x ∷ [])) (whole ∙ ap (λ (n : ℕ). count_by f xs + n) (one_counted f x (f x) refl))

counts-push : (xs : List (List ℕ)) (x : List ℕ) → counted_too x (counts_of xs) ≡ counts_of (xs ++ x ∷ [])
counts-push xs x = rw (how_many-push is_build_file xs x, how_many-push is_module xs x, how_many-push (λ y. not (is_used y)) xs x) refl

abbrev Done : List LeftOut → List Pair → List ℕ → Type 0
Done left ps path = Contains (paths_of ps) path ⊎ IsNamed left path

pub written-step : (at : At) (keys : List (List ℕ)) (i : ℕ) (d : List ℕ) (before : List LeftOut) (old new : Writing) → AreAscending keys
    → i < length keys → Written at (take i keys) before old → Takes at (get_or keys i d) old new → Written at (take (i + 1) keys) before new
written-step at keys i d before old new ascending lt h t = elim (t.taken h.pairs h.begun) [
  | inl p ↦ put p
  | inr l ↦ left l
]
  where
    path : List ℕ
    path = get_or keys i d

    grown : take (i + 1) keys ≡ take i keys ++ get_or keys i d ∷ []
    grown = take_more keys i d lt

    early : (x : List ℕ) → Contains (take i keys) x → Contains (take (i + 1) keys) x
    early x k = subst (λ (xs : List (List ℕ)). Contains xs x) (sym grown) (Contains-append_left (take i keys) (get_or keys i d ∷ []) x k)

    cases : (x : List ℕ) → Contains (take (i + 1) keys) x → Contains (take i keys) x ⊎ (get_or keys i d ≡ x)
    cases x k = Contains-push_cases (take i keys) (get_or keys i d) x (subst (λ (xs : List (List ℕ)). Contains xs x) grown k)

    put : Puts at (get_or keys i d) old new h.pairs → Written at (take (i + 1) keys) before new
    put p = record {
      pairs = h.pairs ++ (get_or keys i d, p.text) ∷ [];
      packed = packed-push at keys i d h.pairs p.text ascending lt h.within h.packed p.file p.of p.served;
      begun = p.begun;
      limit = p.limit;
      utf8 = t.utf8 h.utf8;
      within = subst (All (Contains (take (i + 1) keys))) (sym (paths-push h.pairs (get_or keys i d) p.text))
          (All-push (Contains (take (i + 1) keys)) (paths_of h.pairs) (get_or keys i d)
          (All-weaker (Contains (take i keys)) (Contains (take (i + 1) keys)) early (paths_of h.pairs) h.within)
          (subst (λ (xs : List (List ℕ)). Contains xs (get_or keys i d)) (sym grown) (Contains-push (take i keys) (get_or keys i d))));
      whole = λ x k. elim (cases x k) [
        | inl k ↦ elim (h.whole x k) [
          | inl there ↦ inl (subst (λ (xs : List (List ℕ)). Contains xs x) (sym (paths-push h.pairs (get_or keys i d) p.text))
              (Contains-append_left (paths_of h.pairs) (get_or keys i d ∷ []) x there))
          | inr named ↦ inr (named.0, subst (λ (ls : List LeftOut). Contains ls named.0) (sym p.left) named.1, named.2)
        ]
        | inr this ↦ inl (subst (λ (y : List ℕ). Contains (paths_of (h.pairs ++ (get_or keys i d, p.text) ∷ [])) y) this
            (subst (λ (xs : List (List ℕ)). Contains xs (get_or keys i d)) (sym (paths-push h.pairs (get_or keys i d) p.text))
            (Contains-push (paths_of h.pairs) (get_or keys i d))))
      ];
      kept = λ l k. subst (λ (ls : List LeftOut). Contains ls l) (sym p.left) (h.kept l k);
      causes = subst (All (HasCause at)) (sym p.left) h.causes;
      counted = p.counted ∙ ap (counted_too (get_or keys i d)) h.counted ∙ counts-push (paths_of h.pairs) (get_or keys i d)
          ∙ ap counts_of (sym (paths-push h.pairs (get_or keys i d) p.text));
    }

    left : Leaves at (get_or keys i d) old new → Written at (take (i + 1) keys) before new
    left n = record {
      pairs = h.pairs;
      packed = h.packed;
      begun = n.input ∙ h.begun;
      limit = subst (λ (bs : List ℕ). length bs < input_limit) (sym n.input) h.limit;
      utf8 = t.utf8 h.utf8;
      within = All-weaker (Contains (take i keys)) (Contains (take (i + 1) keys)) early (paths_of h.pairs) h.within;
      whole = λ x k. elim (cases x k) [
        | inl k ↦ elim (h.whole x k) [
          | inl there ↦ inl there
          | inr named ↦ inr (named.0, subst (λ (ls : List LeftOut). Contains ls named.0) (sym n.left) (Contains-append_left old.left.items (n.named ∷ []) named.0 named.1), named.2)
        ]
        | inr this ↦ inr (n.named, subst (λ (ls : List LeftOut). Contains ls n.named) (sym n.left) (Contains-push old.left.items n.named), (n.names.0 ∙ this, n.names.1))
      ];
      kept = λ l k. subst (λ (ls : List LeftOut). Contains ls l) (sym n.left) (Contains-append_left old.left.items (n.named ∷ []) l (h.kept l k));
      causes = subst (All (HasCause at)) (sym n.left) (All-push (HasCause at) old.left.items n.named h.causes n.cause);
      counted = n.counted ∙ h.counted;
    }

-- ---- all files

ascending-nil : AreAscending []
unfolding IsStrictlySortedBy
ascending-nil = tt

pub written-none : (at : At) (before : List LeftOut) (w : Writing) → w.input.items ≡ begun_text [] → w.left.items ≡ before
    → All (HasCause at) before → w.counts ≡ counts_of [] → Written at [] before w
written-none at before w is left causes counted =
    let bracket : w.input.items ≡ 91 ∷ [] = is ∙ begun-nil in record {
      pairs = [];
      packed = record { files = refl; ascending = ascending-nil; of = All-nil (λ (p : Pair). IsOf (at p.0) p); served = All-nil is_served };
      begun = is;
      limit = subst (λ (bs : List ℕ). length bs < input_limit) (sym bracket) (lit< tt);
      utf8 = subst IsUtf8 (sym bracket) (IsUtf8-are_ascii (91 ∷ []) refl);
      within = All-nil (Contains []);
      whole = λ path k. absurd (nothing path k);
      kept = λ l k. subst (λ (ls : List LeftOut). Contains ls l) (sym left) k;
      causes = subst (All (HasCause at)) (sym left) causes;
      counted = counted;
    }
  where
    nothing : (p : List ℕ) → Contains [] p → ⊥
    nothing p k = omega (arith, k.1)

-- where the rest of a list begins
pub at_head : (keys rest : List (List ℕ)) (i : ℕ) (x : List ℕ) → x ∷ rest ≡ drop i keys
    → (i < length keys) × (get_or keys i x ≡ x) × (rest ≡ drop (i + 1) keys)
at_head keys rest i x is =
    let lt : i < length keys = omega (arith, ap length is, length-drop i keys) in
    let on : suc i ≡ i + 1 = omega arith in
    let both : x ∷ rest ≡ get_or keys i x ∷ drop (i + 1) keys
    = is ∙ drop-cons keys i x lt ∙ ap (λ n. get_or keys i x ∷ drop n keys) on in (
      lt,
      sym (ap (λ (xs : List (List ℕ)). get_or xs 0 x) both),
      ap (drop 1) both,
    )

pub written-next : (at : At) (keys rest : List (List ℕ)) (i : ℕ) (x : List ℕ) (before : List LeftOut) (old new : Writing) → AreAscending keys
    → x ∷ rest ≡ drop i keys → Written at (take i keys) before old → Takes at x old new → Written at (take (i + 1) keys) before new
written-next at keys rest i x before old new ascending is h t =
    let head = at_head keys rest i x is in
    written-step at keys i x before old new ascending head.0 h (subst (λ (p : List ℕ). Takes at p old new) (sym head.1) t)

pub written-all : (at : At) (keys : List (List ℕ)) (i : ℕ) (before : List LeftOut) (w : Writing) → [] ≡ drop i keys → Written at (take i keys) before w
    → Written at keys before w
written-all at keys i before w is h =
    let past : length keys ≤ i = omega (arith, ap length is, length-drop i keys) in
    subst (λ (done : List (List ℕ)). Written at done before w) (take_all i keys past) h

taken-within : (keys : List (List ℕ)) (i : ℕ) (x : List ℕ) → i < length keys → Contains (take i keys) x → Contains keys x
taken-within keys i x lt h =
    let early : h.0 < i = omega (arith, h.1, length-take-le i keys) in
    (h.0, omega arith, sym (get_or-take i keys h.0 x early) ∙ h.2)

-- a pair more would be too much
pub too_much : (at : At) (keys rest : List (List ℕ)) (i : ℕ) (x : List ℕ) (before : List LeftOut) (w : Writing) → AreAscending keys
    → x ∷ rest ≡ drop i keys → Written at (take i keys) before w → Exceeds at x w.input.items → AreTooMuch at keys
too_much at keys rest i x before w ascending is h e =
    let head = at_head keys rest i x is in
    let path : x ≡ get_or keys i x = sym head.1 in
    let pairs : List Pair = h.pairs ++ (get_or keys i x, e.0) ∷ [] in
    let text : input_text pairs ≡ (w.input.items ++ (comma w.input.items ++ pair_text (x, e.0))) ++ 93 ∷ []
    = begun-closed pairs ∙ ap (λ (bs : List ℕ). bs ++ 93 ∷ []) (begun-push h.pairs (get_or keys i x, e.0)
    ∙ ap₂ (λ (i : List ℕ) (p : List ℕ). i ++ (comma i ++ pair_text (p, e.0))) (sym h.begun) head.1) in record {
      pairs = pairs;
      packed = packed-push at keys i x h.pairs e.0 ascending head.0 h.within h.packed
          (subst (λ (p : List ℕ). is_file (p, e.0) ≡ true) path e.1) (subst (λ (p : List ℕ). IsOf (at p) (p, e.0)) path e.2)
          (subst (λ (p : List ℕ). is_bazel_file p ≡ false) path e.3);
      within = subst (All (Contains keys)) (sym (paths-push h.pairs (get_or keys i x) e.0))
          (All-push (Contains keys) (paths_of h.pairs) (get_or keys i x)
          (All-weaker (Contains (take i keys)) (Contains keys) (λ y. taken-within keys i y head.0) (paths_of h.pairs) h.within)
          (Contains-get_or keys i x head.0));
      long = omega (arith, e.4, ap length text, length-append (w.input.items ++ (comma w.input.items ++ pair_text (x, e.0))) (93 ∷ []));
    }

-- ---- the whole input

pub written-workspace : (at : At) (done : List (List ℕ)) (before : List LeftOut) (w : Writing) (h : Written at done before w) → IsWorkspace h.pairs
written-workspace at done before w h = record {
  files = h.packed.files;
  distinct = ascending-distinct (paths_of h.pairs) h.packed.ascending;
}

closed_text : (at : At) (done : List (List ℕ)) (before : List LeftOut) (w : Writing) (h : Written at done before w) (input : List ℕ)
    → input ≡ w.input.items ++ 93 ∷ [] → input ≡ input_text h.pairs
closed_text at done before w h input is = is ∙ ap (λ (bs : List ℕ). bs ++ 93 ∷ []) h.begun ∙ sym (begun-closed h.pairs)

whole_input : (at : At) (done : List (List ℕ)) (before : List LeftOut) (w : Writing) (h : Written at done before w) (input : List ℕ)
    → input ≡ w.input.items ++ 93 ∷ [] → Spells input h.pairs
whole_input at done before w h input is =
    let text : input ≡ input_text h.pairs = closed_text at done before w h input is in
    let utf8 : IsUtf8 input = subst IsUtf8 (sym is) (IsUtf8-append w.input.items (93 ∷ []) h.utf8 (IsUtf8-are_ascii (93 ∷ []) refl)) in
    let limit : length input ≤ input_limit = omega (arith, h.limit, ap length is, length-append w.input.items (93 ∷ [])) in
    subst (λ (bs : List ℕ). Spells bs h.pairs) (sym text)
    (text_spells h.pairs (written-workspace at done before w h) (subst IsUtf8 text utf8) (subst (λ (bs : List ℕ). length bs ≤ input_limit) text limit))

first_decides : (o rest : Ordering) → is_lt (ordering_then o rest) ≡ false → is_lt o ≡ false
first_decides Less rest h = h
first_decides Equal rest h = refl
first_decides Greater rest h = refl

-- what is ordered by paths, and then by reasons, is ordered by paths
pub in_order : (reasons : Reason → Reason → Ordering) (left : List LeftOut)
    → IsSorted (λ a b. ordering_then (slice_cmp nat_cmp a.path b.path) (reasons a.reason b.reason)) left → AreInOrder left
in_order reasons left sorted = λ k d low high. first_decides (slice_cmp nat_cmp (get_or left (k + 1) d).path (get_or left k d).path)
    (reasons (get_or left (k + 1) d).reason (get_or left k d).reason) (sorted k d low high)

-- what a walk told is told of the input too: a file that it found is packed or named
told-packed : (n : Option Node) (path : List ℕ) (files paths : List (List ℕ)) (left rest : List LeftOut) → (Contains files path → Contains paths path ⊎ IsNamed rest path)
    → ((l : LeftOut) → Contains left l → Contains rest l) → IsTold n path files left → IsTold n path paths rest ⊎ IsNamed rest path
told-packed None path files paths left rest packed kept told = inl told
told-packed (Some (folder names others)) path files paths left rest packed kept told = inl (λ is. kept (record { path = path; reason = kinds.NamesNotUtf8 }) (told is))
told-packed (Some (file bytes)) path files paths left rest packed kept told = packed told
told-packed (Some link) path files paths left rest packed kept told = inl told
told-packed (Some special) path files paths left rest packed kept told = absurd told
told-packed (Some (shut_folder u)) path files paths left rest packed kept told = absurd told
told-packed (Some (shut_file u)) path files paths left rest packed kept told = packed told
told-packed (Some (unread u)) path files paths left rest packed kept told = absurd told

pub packs-closed : (at : At) (walk : Walk) (w : Writing) (r : Result Packed PackStop) → IsWalked at walk
    → Written at walk.files.keys walk.left.items w
    → IfOk r (λ p. p.input.items ≡ w.input.items ++ 93 ∷ []) → IfOk r (λ p. IsPermutation w.left.items p.left.items)
    → IfOk r (λ p. AreInOrder p.left.items) → IfOk r (λ p. p.counts ≡ w.counts) → IfOk r (Packs at)
packs-closed at walk w (Err e) walked h input left ordered counted = tt
packs-closed at walk w (Ok p) walked h input left ordered counted = record {
  root = walked.root;
  workspace = h.pairs;
  told = closed_text at walk.files.keys walk.left.items w h p.input.items input;
  spelt = whole_input at walk.files.keys walk.left.items w h p.input.items input;
  ascending = h.packed.ascending;
  of = h.packed.of;
  served = h.packed.served;
  whole = λ path r. elim (walked.whole path r) [
    | inl told ↦ told-packed (at path) path walk.files.keys (paths_of h.pairs) walk.left.items p.left.items
        (λ found. elim (h.whole path found) [
          | inl there ↦ inl there
          | inr out ↦ inr (out.0, Contains-permutation w.left.items p.left.items out.0 left out.1, out.2)
        ])
        kept told
    | inr out ↦ inr (out.0, kept out.0 out.1, out.2)
  ];
  only = λ k. All-weaker (Contains walk.files.keys) (Reaches at [])
      (λ path there. (All-contains (IsFound at) walk.files.keys path walked.found there).1 k) (paths_of h.pairs) h.within;
  causes = All-permutation (HasCause at) w.left.items p.left.items left h.causes;
  ordered = ordered;
  counted = counted ∙ h.counted;
}
  where
    kept : (l : LeftOut) → Contains walk.left.items l → Contains p.left.items l
    kept l k = Contains-permutation w.left.items p.left.items l left (h.kept l k)

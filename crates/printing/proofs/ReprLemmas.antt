-- The text of a value, part by part. A text that has too many bytes for a string already stays one.
use Rattle.std.proofs.Common.{◌≡◌, ℕ, zero, suc, ◌+◌, ◌-◌, ◌≤◌, Bool, true, false, List, ◌∷◌, ◌++◌, length, drop, slice_get, Some, Result, Ok, Err, refl, sym, ap, ◌∙◌, arith, append_assoc, append-nil, drop_of_length-le, if◌then◌else◌, nat_lt}
use Rattle.std.proofs.lemmas.Bool.{ltb-true, lt-ltb}
use Rattle.std.proofs.lemmas.List.{length-append}
use Rattle.depsets.proofs.Turns.{drop_at}
use Rattle.depsets.specs.Listed.{walked, flat}
use Rattle.ticks.specs.Ticking.{Count, Ticking, ticked, then_on, after_tick, entered, FaultOr}
use Rattle.values.specs.Visits.{all_of}
use Rattle.values.specs.Shape.{Shape, key, shape}
use Rattle.leaf_texts.specs.Texts.{separator, joined_from, quoted, leaf_text}
use Rattle.printing.specs.Repr.{has_text, enclosed, printed, print_at, fits, appended, itself, string_key, string_in, whole_at}
use Rattle.leaves.specs.declared.leaf.Leaf.{Leaf}
use Rattle.leaves.specs.declared.leaf.Leaf.TheVariants as plain
use Rattle.keys.specs.declared.key.Key.{Key}
use Rattle.keys.specs.declared.key.Key.TheVariants as index
use Rattle.values.specs.declared.value.Value.{Value}
use Rattle.values.specs.declared.cells.Cell.{Cell}
use Rattle.printing.specs.declared.reprs.TheConstants.{LARGEST_TEXT}
use Rattle.ticks.specs.declared.ticks.Broken.{Broken}
use Rattle.ticks.specs.declared.ticks.Broken.TheVariants as broken
use Rattle.ticks.specs.declared.ticks.Kind.{Kind}
use Rattle.ticks.specs.declared.ticks.Kind.TheVariants.{Large}
use Rattle.values.proofs.VisitLemmas.{too-deep}

-- a leaf with a text has no listing
pub leaf-plain : (l : Leaf) → has_text l ≡ true → leaf_text walked l ≡ leaf_text flat l
leaf-plain plain.None h = refl
leaf-plain (plain.Label x) h = refl
leaf-plain (plain.File x) h = refl
leaf-plain (plain.Depset x) h = absurd (cc)
leaf-plain (plain.Function x) h = refl
leaf-plain (plain.BuiltIn x) h = refl
leaf-plain (plain.Provider x) h = refl
leaf-plain (plain.Rule x) h = refl
leaf-plain (plain.Attribute x) h = refl
leaf-plain (plain.Target x) h = refl
leaf-plain (plain.Object x) h = refl

abbrev sized : Bool → List ℕ → Result (List ℕ) Kind
sized b s = if b then Err Large else Ok s

module _ (m : ℕ) where
  abbrev within : List ℕ → Result (List ℕ) Kind
  within s = sized (nat_lt m (length s)) s

  full-append : (a t : List ℕ) → nat_lt m (length a) ≡ true → nat_lt m (length (a ++ t)) ≡ true
  full-append a t h = lt-ltb m (length (a ++ t)) (let l = ltb-true m (length a) h in omega (arith, l, length-append a t))

  module _ (a b t : List ℕ) where
    by_size : (x y : Bool) → nat_lt m (length a) ≡ x → nat_lt m (length b) ≡ y
        → sized x a ≡ sized y b → within (a ++ t) ≡ within (b ++ t)
    by_size true true p q h =
        ap (λ z. sized z (a ++ t)) (full-append a t p) ∙ sym (ap (λ z. sized z (b ++ t)) (full-append b t q))
    by_size true false p q h = absurd (cc)
    by_size false true p q h = absurd (cc)
    by_size false false p q h = let e : a ≡ b = cc in ap (λ s. within (s ++ t)) e

    pub within-append : within a ≡ within b → within (a ++ t) ≡ within (b ++ t)
    within-append h = by_size (nat_lt m (length a)) (nat_lt m (length b)) refl refl h

pub fits-append : (a b t : List ℕ) → fits a ≡ fits b → fits (a ++ t) ≡ fits (b ++ t)
fits-append a b t h = within-append LARGEST_TEXT a b t h

-- what has too many bytes has too many with more behind it
pub fits-full : (a t : List ℕ) → nat_lt LARGEST_TEXT (length a) ≡ true → fits a ≡ fits (a ++ t)
fits-full a t h =
    ap (λ z. sized z a) h ∙ sym (ap (λ z. sized z (a ++ t)) (full-append LARGEST_TEXT a t h))

pub fault-inside : (old : List ℕ) (r : Ticking (List ℕ)) (e : Broken) → FaultOr (appended old r) e → FaultOr r e
fault-inside old (Ok p) (broken.Kind k) h = absurd (cc)
fault-inside old (Err j) (broken.Kind k) h = let e : j ≡ k = cc in ap Err e
fault-inside old r broken.NoMemory h = tt

-- what two equal answers give
module _ {A : Type 0} where
  abbrev text_got : A → Ticking A → A
  text_got z (Ok p) = p.0
  text_got z (Err k) = z

  abbrev count_got : Count → Ticking A → Count
  count_got z (Ok p) = p.1
  count_got z (Err k) = z

  pub same-text : (x y : A) (c d : Count) → ◌≡◌ {A = Ticking A} (Ok (x, c)) (Ok (y, d)) → x ≡ y
  same-text x y c d h = ap (text_got x) h

  pub same-count : (x y : A) (c d : Count) → ◌≡◌ {A = Ticking A} (Ok (x, c)) (Ok (y, d)) → c ≡ d
  same-count x y c d h = ap (count_got c) h

-- a text behind what stands before it
pub behind : (old new t : List ℕ) → fits new ≡ fits (old ++ t) → (c : Count) → appended old (Ok (t, c)) ≡ Ok (fits new, c)
behind old new t e c = ap (λ s. Ok (s, c)) (sym e)

-- a text between two others
pub enclosed-text : (old first middle last before after : List ℕ) (r : Ticking (List ℕ)) (d : Count) → fits first ≡ fits (old ++ before) → appended first r ≡ Ok (fits middle, d)
    → fits last ≡ fits (middle ++ after) → appended old (enclosed before after r) ≡ Ok (fits last, d)
enclosed-text old first middle last before after (Err k) d e f g = absurd (cc)
enclosed-text old first middle last before after (Ok p) d e f g =
    let t = p.0 in
    let count = same-count (fits (first ++ t)) (fits middle) p.1 d f in
    let written = same-text (fits (first ++ t)) (fits middle) p.1 d f in
    let whole =
    ap fits (sym (ap (λ l. l ++ after) (append_assoc old before t) ∙ append_assoc old (before ++ t) after))
    ∙ fits-append ((old ++ before) ++ t) middle after (fits-append (old ++ before) first t (sym e) ∙ written)
    ∙ sym g in
    λ j. Ok (whole j, count j)

-- the texts of parts from a place on
abbrev pub commas_from : ℕ → Ticking (List (List ℕ)) → Ticking (List ℕ)
commas_from n r = then_on r (λ ts d. Ok (joined_from n ts, d))

module _ {X : Type 0} (f : X → Count → Ticking (List ℕ)) (xs : List X) (i : ℕ) (old : List ℕ) (c : Count) where
  pub parts-end : length xs ≤ i → appended old (commas_from i (all_of f (drop i xs) c)) ≡ Ok (fits old, c)
  parts-end l = ap (λ ys. appended old (commas_from i (all_of f ys c))) (drop_of_length-le xs l) ∙ ap (λ s. Ok (fits s, c)) (append-nil old)

  module _ (x : X) (p : slice_get xs i ≡ Some x) where
    at_place : appended old (commas_from i (all_of f (drop i xs) c))
        ≡ appended old (commas_from i (then_on (f x c) (λ t d. then_on (all_of f (drop (i + 1) xs) d) (λ ts e. Ok (t ∷ ts, e)))))
    at_place = ap (λ ys. appended old (commas_from i (all_of f ys c))) (drop_at xs i x p)

    pub parts-fault : (e : Broken) → FaultOr (f x c) e → FaultOr (appended old (commas_from i (all_of f (drop i xs) c))) e
    parts-fault (broken.Kind k) h =
        at_place ∙ ap (λ r. appended old (commas_from i (then_on r (λ t d. then_on (all_of f (drop (i + 1) xs) d) (λ ts e. Ok (t ∷ ts, e)))))) h
    parts-fault broken.NoMemory h = tt

    module _ (first new : List ℕ) (d : Count) (begun : fits first ≡ fits (old ++ separator i)) where
      rest : (t : List ℕ) (r : Ticking (List (List ℕ))) → fits (first ++ t) ≡ fits new
          → appended new (commas_from (i + 1) r) ≡ appended old (commas_from i (then_on r (λ ts e. Ok (t ∷ ts, e))))
      rest t (Err k) h = refl
      rest t (Ok q) h =
          let more = joined_from (i + 1) q.0 in
          let whole =
          fits-append new ((old ++ separator i) ++ t) more (sym h ∙ fits-append first (old ++ separator i) t begun)
          ∙ ap fits (ap (λ l. l ++ more) (append_assoc old (separator i) t) ∙ append_assoc old (separator i ++ t) more) in
          ap (λ s. Ok (s, q.1)) whole

      one : (r : Ticking (List ℕ)) → appended first r ≡ Ok (fits new, d)
          → appended new (commas_from (i + 1) (all_of f (drop (i + 1) xs) d))
          ≡ appended old (commas_from i (then_on r (λ t d. then_on (all_of f (drop (i + 1) xs) d) (λ ts e. Ok (t ∷ ts, e)))))
      one (Err k) h = absurd (cc)
      one (Ok q) h =
          let count = same-count (fits (first ++ q.0)) (fits new) q.1 d h in
          let written = same-text (fits (first ++ q.0)) (fits new) q.1 d h in
          ap (λ e. appended new (commas_from (i + 1) (all_of f (drop (i + 1) xs) e))) (sym count)
          ∙ rest q.0 (all_of f (drop (i + 1) xs) q.1) written

      pub parts-next : appended first (f x c) ≡ Ok (fits new, d)
          → appended new (commas_from (i + 1) (all_of f (drop (i + 1) xs) d)) ≡ appended old (commas_from i (all_of f (drop i xs) c))
      parts-next h = one (f x c) h ∙ sym at_place

-- a text behind that of its key
pub headed : (old first new head : List ℕ) (r : Ticking (List ℕ)) (d : Count) → fits first ≡ fits (old ++ head) → appended first r ≡ Ok (fits new, d)
    → appended old (then_on r (λ t f. Ok (head ++ t, f))) ≡ Ok (fits new, d)
headed old first new head (Err k) d e f = absurd (cc)
headed old first new head (Ok p) d e f =
    let count = same-count (fits (first ++ p.0)) (fits new) p.1 d f in
    let written = same-text (fits (first ++ p.0)) (fits new) p.1 d f in
    let whole = ap fits (sym (append_assoc old head p.0)) ∙ fits-append (old ++ head) first p.0 (sym e) ∙ written in
    λ j. Ok (whole j, count j)

-- a visit, and then what the value shows
pub opened : (n : ℕ) (h : List Cell) (v : Value) (c : Count) → print_at n h v c ≡ after_tick (entered n c) (λ d. printed (entered (n - 1)) (print_at (n - 1) h) (shape h v) d)
unfolding print_at
opened zero h v c = too-deep (ticked c) _ _
opened (suc n) h v c =
    ap (λ m. after_tick (entered (suc n) c) (λ d. printed (entered m) (print_at m h) (shape h v) d)) (let e : n ≡ suc n - 1 = omega arith in e)

itself-key : (k : Key) (s : List ℕ) → string_key k ≡ Some s → k ≡ index.Text s
itself-key (index.Text x) s h = let e : x ≡ s = cc in ap index.Text e
itself-key _ s h = absurd (cc)

itself-shape : (w : Shape) (s : List ℕ) → string_in w ≡ Some s → w ≡ key (index.Text s)
itself-shape (key k) s h = ap key (itself-key k s h)
itself-shape _ s h = absurd (cc)

visited-string : (r : Result Count Kind) (s t : List ℕ) → then_on (after_tick r (λ d. Ok (t, d))) (λ u d. Ok (s, d)) ≡ after_tick r (λ d. Ok (s, d))
visited-string (Ok d) s t = refl
visited-string (Err k) s t = refl

-- a string is itself, after its visit
pub whole-string : (n : ℕ) (h : List Cell) (v : Value) (c : Count) (s : List ℕ) → string_in (shape h v) ≡ Some s → whole_at n h v c ≡ after_tick (entered n c) (λ d. Ok (s, d))
whole-string n h v c s e =
    ap (λ o. then_on (print_at n h v c) (λ t d. Ok (itself o t, d))) e
    ∙ ap (λ r. then_on r (λ t d. Ok (s, d))) (opened n h v c)
    ∙ ap (λ w. then_on (after_tick (entered n c) (λ d. printed (entered (n - 1)) (print_at (n - 1) h) w d)) (λ t d. Ok (s, d))) (itself-shape (shape h v) s e)
    ∙ visited-string (entered n c) s (quoted s)

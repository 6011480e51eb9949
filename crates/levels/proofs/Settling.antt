-- Heights that are settled one after another, in the order of components.
use Rattle.std.proofs.Common.{◌≡◌, ◌≢◌, ℕ, ◌+◌, ◌<◌, ◌≤◌, inl, inr, true, List, [], ◌∷◌, ◌++◌, length, map, take, get_or, set, sym, ap, ◌∙◌, subst, arith, max}
use Rattle.std.specs.Prelude.{slice_index, Contains}
use Rattle.std.proofs.lemmas.List.{get_or-set_same, get_or-set_other, get_or_default, length-set, map_more}
use Rattle.edges.specs.Rows.{row, has}
use Rattle.edges.specs.Walks.{OnCycle}
use Rattle.edges.proofs.Tests.{map_same}
use Rattle.edges.proofs.Lists.{below_or_past, to_has}
use Rattle.components.specs.Components.{AreComponents, IsFound}
use Rattle.components.proofs.Lists.{same_or}
use Rattle.components.proofs.Resting.{cycle_by}
use Rattle.loading.specs.Modules.{above_all}
use Rattle.levels.specs.Levels.{IsOrderBy, AreHeights, AreBounded}

-- ---- one more than the highest

above-push : (hs : List ℕ) (h : ℕ) → above_all (hs ++ h ∷ []) ≡ max (above_all hs) (h + 1)
above-push [] h = omega arith
above-push (x ∷ hs) h = let e = above-push hs h in omega (arith, e)

pub above_more : (heights ds : List ℕ) (i d : ℕ) → i < length ds → d ≡ get_or ds i 0
    → above_all (map (slice_index heights) (take (i + 1) ds)) ≡ max (above_all (map (slice_index heights) (take i ds))) (get_or heights d 0 + 1)
above_more heights ds i d low is =
    ap above_all (map_more (slice_index heights) ds i 0 low)
    ∙ above-push (map (slice_index heights) (take i ds)) (get_or heights (get_or ds i 0) 0)
    ∙ ap (λ x. max (above_all (map (slice_index heights) (take i ds))) (get_or heights x 0 + 1)) (sym is)

-- ---- the heights of the first nodes in order

pub record IsSettled (deps : List (List ℕ)) (numbers order : List ℕ) (upto : ℕ) (hs : List ℕ) : Type 0 where
  pub size : length hs ≡ length deps
  pub bounded : AreBounded numbers hs
  pub cyclic : (n : ℕ) → OnCycle (row deps) n → get_or hs n 0 ≡ 0
  pub done : (j : ℕ) → j < upto → (OnCycle (row deps) (get_or order j 0) → ⊥) → get_or hs (get_or order j 0) 0 ≡ above_all (map (slice_index hs) (row deps (get_or order j 0)))

module _ (deps : List (List ℕ)) (numbers : List ℕ) (found : IsFound (record { deps = deps; numbers = numbers })) (order : List ℕ) (by : IsOrderBy numbers order) where
  set_at_0 : (hs : List ℕ) (n h m : ℕ) → n < length hs → m ≡ n → get_or (set hs n h) m 0 ≡ h
  set_at_0 hs n h m low e = ap (λ x. get_or (set hs n h) x 0) e ∙ get_or-set_same hs n h 0 low

  -- a node that is settled and on no cycle doesn't depend on one that comes no earlier
  no_dep : (j k : ℕ) → j ≤ k → k < length order → (OnCycle (row deps) (get_or order j 0) → ⊥) → Contains (row deps (get_or order j 0)) (get_or order k 0) → ⊥
  no_dep j k le low off c =
      let m = get_or order j 0 in
      let n = get_or order k 0 in
      let up = by.ascends j k le low in
      let down = found.components.after m n (to_has (row deps m) n c) in
      let inside : m < length deps = let s = found.components.size in let i = by.nodes j (omega (arith, le, low)) in omega (arith, s, i) in
      let same : get_or numbers n 0 ≡ get_or numbers m 0 = omega (arith, up, down) in
      off (cycle_by deps found.inside numbers found.components m inside n c same)

  row_still : (hs : List ℕ) (j k h : ℕ) → j ≤ k → k < length order → (OnCycle (row deps) (get_or order j 0) → ⊥)
      → map (slice_index (set hs (get_or order k 0) h)) (row deps (get_or order j 0)) ≡ map (slice_index hs) (row deps (get_or order j 0))
  row_still hs j k h le low off =
      map_same (slice_index (set hs (get_or order k 0) h)) (slice_index hs) (row deps (get_or order j 0))
      (λ d c. get_or-set_other hs (get_or order k 0) d h 0 (λ e. no_dep j k le low off (subst (λ x. Contains (row deps (get_or order j 0)) x) e c)))

  module _ (k n : ℕ) (low : k < length order) (is : n ≡ get_or order k 0) (hs : List ℕ) (s : IsSettled deps numbers order k hs) (h : ℕ)
      (cyclic : OnCycle (row deps) n → h ≡ 0) (other : (OnCycle (row deps) n → ⊥) → h ≡ above_all (map (slice_index hs) (row deps n))) (bound : h ≤ get_or numbers n 0) where
    pub inside_at : n < length deps
    inside_at = let z = found.components.size in let i = by.nodes k low in omega (arith, z, i, is)

    inside_hs : n < length hs
    inside_hs = let z = s.size in let i = inside_at in omega (arith, z, i)

    new_bounded : (m : ℕ) → get_or (set hs n h) m 0 ≤ get_or numbers m 0
    new_bounded m = elim (same_or m n) [
      | inl e ↦ let a = set_at_0 hs n h m inside_hs e in let b = ap (λ x. get_or numbers x 0) e in omega (arith, a, b, bound)
      | inr apart ↦ let a = get_or-set_other hs n m h 0 apart in let b = s.bounded m in omega (arith, a, b)
    ]

    new_cyclic : (m : ℕ) → OnCycle (row deps) m → get_or (set hs n h) m 0 ≡ 0
    new_cyclic m on = elim (same_or m n) [
      | inl e ↦ set_at_0 hs n h m inside_hs e ∙ cyclic (subst (OnCycle (row deps)) e on)
      | inr apart ↦ get_or-set_other hs n m h 0 apart ∙ s.cyclic m on
    ]

    value : (j : ℕ) → j < k + 1 → (OnCycle (row deps) (get_or order j 0) → ⊥) → get_or (set hs n h) (get_or order j 0) 0 ≡ above_all (map (slice_index hs) (row deps (get_or order j 0)))
    value j lower off = elim (same_or (get_or order j 0) n) [
      | inl e ↦ set_at_0 hs n h (get_or order j 0) inside_hs e ∙ other (λ on. off (subst (OnCycle (row deps)) (sym e) on)) ∙ ap (λ x. above_all (map (slice_index hs) (row deps x))) (sym e)
      | inr apart ↦
          let earlier : j < k = elim (below_or_past j k) [
            | inl l ↦ l
            | inr past ↦ absurd (apart (ap (λ x. get_or order x 0) (omega (arith, lower, past)) ∙ sym is))
          ] in
          get_or-set_other hs n (get_or order j 0) h 0 apart ∙ s.done j earlier off
    ]

    pub settled_more : IsSettled deps numbers order (k + 1) (set hs n h)
    settled_more = record {
      size = length-set hs n h ∙ s.size;
      bounded = new_bounded;
      cyclic = new_cyclic;
      done = λ j lower off.
          value j lower off
          ∙ ap above_all (sym (ap (λ x. map (slice_index (set hs x h)) (row deps (get_or order j 0))) is ∙ row_still hs j k h (omega (arith, lower)) low off));
    }

  pub all_settled : (hs : List ℕ) → IsSettled deps numbers order (length order) hs → AreHeights deps hs
  all_settled hs s = record {
    size = s.size;
    cyclic = λ n low on. s.cyclic n on;
    others = λ n low off.
        let z = found.components.size in
        let at = by.all n (omega (arith, z, low)) in
        subst (λ x. get_or hs x 0 ≡ above_all (map (slice_index hs) (row deps x))) at.2 (s.done at.0 at.1 (λ on. off (subst (OnCycle (row deps)) at.2 on)));
  }

-- a dependency of another component stands below the node's number
pub below_own : (deps : List (List ℕ)) (numbers hs : List ℕ) → AreComponents deps numbers → AreBounded numbers hs → (n d : ℕ) → has (row deps n) d ≡ true → get_or numbers d 0 ≢ get_or numbers n 0 → get_or hs d 0 + 1 ≤ get_or numbers n 0
below_own deps numbers hs c bounded n d h apart = let a = c.after n d h in let b = bounded d in omega (arith, a, b, apart)

-- ---- a turn over what a node depends on

pub read_at : (ds now : List ℕ) (i d : ℕ) → now ≡ ds → i < length now → d ≡ get_or now i d → d ≡ get_or ds i 0
read_at ds now i d same low is = is ∙ get_or_default now i d 0 low ∙ ap (λ xs. get_or xs i 0) same

pub none_more : (numbers ds : List ℕ) (own i d number : ℕ) → ((k : ℕ) → k < i → get_or numbers (get_or ds k 0) 0 ≢ own) → d ≡ get_or ds i 0 → number ≡ get_or numbers d 0 → number ≢ own
    → (k : ℕ) → k < i + 1 → get_or numbers (get_or ds k 0) 0 ≢ own
none_more numbers ds own i d number none is told apart k low same = elim (below_or_past k i) [
  | inl old ↦ none k old same
  | inr new ↦ let e : i ≡ k = omega (arith, low, new) in apart (told ∙ ap (λ x. get_or numbers x 0) (is ∙ ap (λ x. get_or ds x 0) e) ∙ same)
]

pub height_more : (heights ds : List ℕ) (i d e height new : ℕ) → i < length ds → d ≡ get_or ds i 0 → e ≡ d → height ≡ above_all (map (slice_index heights) (take i ds)) → new ≡ max height (get_or heights e 0 + 1)
    → new ≡ above_all (map (slice_index heights) (take (i + 1) ds))
height_more heights ds i d e height new low is same was more =
    more ∙ ap (λ x. max x (get_or heights e 0 + 1)) was ∙ ap (λ x. max (above_all (map (slice_index heights) (take i ds))) (get_or heights x 0 + 1)) same ∙ sym (above_more heights ds i d low is)

pub bound_more : (heights : List ℕ) (d e height new own number : ℕ) → e ≡ d → height ≤ own → get_or heights d 0 + 1 ≤ number → own ≡ number → new ≡ max height (get_or heights e 0 + 1) → new ≤ own
bound_more heights d e height new own number same was room is more = let at = ap (λ x. get_or heights x 0) same in omega (arith, at, was, room, is, more)

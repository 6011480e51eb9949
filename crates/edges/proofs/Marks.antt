-- Marks of the nodes that stand in a row: where one is met again, the row has it twice.
use Rattle.std.proofs.Common.{◌≡◌, ℕ, ◌+◌, ◌<◌, ◌≤◌, inl, inr, true, false, ◌||◌, List, [], ◌∷◌, ◌++◌, length, get_or, take, set, sym, ap, ◌∙◌, subst, arith, true≢false, eqb-true, if◌then◌else◌}
use Rattle.std.specs.Prelude.{nat_eq}
use Rattle.std.specs.List.{IsDistinct}
use Rattle.std.proofs.lemmas.List.{take_more, take_all, get_or-set_same, get_or-set_other, get_or_past}
use Rattle.std.proofs.lemmas.Map.Keys.{IsDistinct-cons}
use Rattle.edges.specs.Rows.{row, has, IsRow, IsGraph}
use Rattle.edges.proofs.Tests.{cases_of, not_both, isnt, either, or_right, or_none}
use Rattle.edges.proofs.Lists.{has-get_or, has_more, new_at, apart_of, below_or_past}
use Rattle.edges.proofs.Orders.{distinct-append}

distinct_push : (xs : List ℕ) (d : ℕ) → IsDistinct nat_eq xs → has xs d ≡ false → IsDistinct nat_eq (xs ++ d ∷ [])
unfolding IsDistinct
distinct_push xs d distinct new =
    distinct-append xs (d ∷ []) distinct (IsDistinct-cons nat_eq d [] tt tt)
    (λ e h. isnt (has (d ∷ []) e) (λ again. not_both (has xs d) (subst (λ (x : ℕ). has xs x ≡ true) (eqb-true e d (sym (or_none (nat_eq e d)) ∙ again)) h) new))

module _ (mark : ℕ) (first list : List ℕ) where
  -- the nodes of the first part of the row are marked
  abbrev pub Marked : ℕ → List ℕ → Type 0
  Marked i marks = (d : ℕ) → d < length first → get_or marks d 0 ≡ (if has (take i list) d then mark else get_or first d 0)

  module _ (i d : ℕ) (marks : List ℕ) (within : i < length list) (here : d ≡ get_or list i 0) (was : Marked i marks) where
    pub unmarked : d < length first → (get_or marks d 0 ≡ mark → ⊥) → has (take i list) d ≡ false
    unmarked low not = isnt (has (take i list) d) (λ h. not (was d low ∙ ap (λ b. if b then mark else get_or first d 0) h))

    -- a mark that is met again
    pub again : ((e : ℕ) → e < length first → get_or first e 0 < mark) → d < length first → get_or marks d 0 ≡ mark → IsRow (length first) list → ⊥
    again below low met row = elim (cases_of (has (take i list) d)) [
      | inl old ↦ not_both (has (take i list) d) old (subst (λ (x : ℕ). has (take i list) x ≡ false) (sym here) (new_at list i row.distinct within))
      | inr new ↦
          let e : get_or marks d 0 ≡ get_or first d 0 = was d low ∙ ap (λ b. if b then mark else get_or first d 0) new in
          let l = below d low in
          omega (arith, e, l, met)
    ]

    pub marked_more : length marks ≡ length first → d < length first → Marked (i + 1) (set marks d mark)
    marked_more long low e low' = elim (cases_of (nat_eq e d)) [
      | inl same ↦
          let is = eqb-true e d same in
          let in_it : has (take (i + 1) list) e ≡ true = has_more list i e within ∙ or_right (has (take i list) e) (nat_eq e (get_or list i 0)) (subst (λ (x : ℕ). nat_eq e x ≡ true) here same) in
          ap (λ (x : ℕ). get_or (set marks d mark) x 0) is ∙ get_or-set_same marks d mark 0 (omega (arith, long, low)) ∙ sym (ap (λ b. if b then mark else get_or first e 0) in_it)
      | inr other ↦
          let same_has : has (take (i + 1) list) e ≡ has (take i list) e =
          has_more list i e within ∙ ap (λ b. has (take i list) e || b) (subst (λ (x : ℕ). nat_eq e x ≡ false) here other) ∙ or_none (has (take i list) e) in
          get_or-set_other marks d e mark 0 (apart_of e d other) ∙ was e low' ∙ ap (λ b. if b then mark else get_or first e 0) (sym same_has)
    ]

    pub row_more : IsRow (length first) (take i list) → d < length first → has (take i list) d ≡ false → IsRow (length first) (take (i + 1) list)
    row_more row low new = record {
      distinct = subst (IsDistinct nat_eq) (sym (take_more list i 0 within))
          (distinct_push (take i list) (get_or list i 0) row.distinct (subst (λ (x : ℕ). has (take i list) x ≡ false) here new));
      inside = λ e h. elim (either (has (take i list) e) (nat_eq e (get_or list i 0)) (sym (has_more list i e within) ∙ h)) [
        | inl old ↦ row.inside e old
        | inr is ↦ omega (arith, eqb-true e (get_or list i 0) is, here, low)
      ];
    }

    pub outside : length first ≤ d → IsRow (length first) list → ⊥
    outside past row = let low = row.inside (get_or list i 0) (has-get_or list i within) in omega (arith, past, here, low)

  -- all marks are at most the new one
  pub marked_most : (i : ℕ) (marks : List ℕ) → Marked i marks → ((e : ℕ) → e < length first → get_or first e 0 < mark) → (e : ℕ) → e < length first → get_or marks e 0 ≤ mark
  marked_most i marks was below e low = elim (cases_of (has (take i list) e)) [
    | inl old ↦ let is = was e low ∙ ap (λ b. if b then mark else get_or first e 0) old in omega (arith, is)
    | inr new ↦ let is = was e low ∙ ap (λ b. if b then mark else get_or first e 0) new in let l = below e low in omega (arith, is, l)
  ]

pub empty_row : (nodes : ℕ) → IsRow nodes []
unfolding IsDistinct
empty_row nodes = record { distinct = tt; inside = λ d h. absurd (true≢false (sym h)) }

pub whole_row : (nodes i : ℕ) (list : List ℕ) → length list ≤ i → IsRow nodes (take i list) → IsRow nodes list
whole_row nodes i list past is = subst (IsRow nodes) (take_all i list past) is

-- rows that are each in order are a graph's
pub graph_of_rows : (rows : List (List ℕ)) → ((n : ℕ) → n < length rows → IsRow (length rows) (row rows n)) → IsGraph rows
graph_of_rows rows all =
    let each : (n : ℕ) → IsRow (length rows) (row rows n) = λ n. elim (below_or_past n (length rows)) [
      | inl low ↦ all n low
      | inr past ↦ subst (IsRow (length rows)) (sym (get_or_past rows n [] past)) (empty_row (length rows))
    ] in
    record { distinct = λ n. (each n).distinct; inside = λ n. (each n).inside }

pub row_of_graph : (rows : List (List ℕ)) (n : ℕ) → IsGraph rows → IsRow (length rows) (row rows n)
row_of_graph rows n graph = record { distinct = graph.distinct n; inside = graph.inside n }

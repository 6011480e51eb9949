-- A node is met: the search goes on.
use Rattle.std.proofs.Common.{◌≡◌, ℕ, ◌+◌, ◌<◌, ◌≤◌, ◌⊎◌, inl, inr, true, List, [], ◌∷◌, length, get_or, sym, ap, ◌∙◌, subst, arith, length-append}
use Rattle.std.proofs.lemmas.List.{get_or-append-add}
use Rattle.edges.specs.Rows.{row, has}
use Rattle.edges.specs.Walks.{Leads}
use Rattle.edges.proofs.Lists.{has_at, has-get_or}
use Rattle.components.specs.declared.search.Place.TheVariants.{Unmet, Open, Closed}
use Rattle.components.specs.declared.search.Start.{Start}
use Rattle.components.specs.Search.{View, place_of, start_of, Sees, Waits, IsSource, IsSettled, IsSearchBut, IsSearch}
use Rattle.components.specs.Turns.{met}
use Rattle.components.proofs.Lists.{unmet_open, unmet_closed, open_closed, open_same, set_at, set_other, length-slice_set, same_or, before, last_at, in_pushed, in_joined, leads_itself}

abbrev none : Start
none = record { nodes = 0; edges = 0 }

module _ (deps : List (List ℕ)) (v : View) (n : ℕ) (follows : ℕ → Type 0) (s : IsSearchBut deps follows v) (fresh : place_of v.places n ≡ Unmet) (inside : n < length deps)
    (led : (i : ℕ) → i < length v.path → Leads (row deps) (get_or v.path i 0) n) (only : (d : ℕ) → follows d → d ≡ n) where
  abbrev w : View
  w = met deps n v

  abbrev P : ℕ
  P = length v.path

  abbrev W : ℕ
  W = length v.waiting

  abbrev G : ℕ
  G = length v.starts

  abbrev own : Start
  own = record { nodes = P; edges = W }

  longer : length w.path ≡ P + 1
  longer = length-append v.path (n ∷ [])

  more : W ≤ length w.waiting
  more = let e = length-append v.waiting (row deps n) in omega (arith, e)

  fits : n < length v.places
  fits = let e = s.size in omega (arith, e, inside)

  -- ---- the places of the new path, edges and components

  path_old : (i : ℕ) → i < P → get_or w.path i 0 ≡ get_or v.path i 0
  path_old i low = before 0 v.path (n ∷ []) i low

  path_new : get_or w.path P 0 ≡ n
  path_new = last_at 0 v.path n

  waiting_old : (e : ℕ) → e < W → get_or w.waiting e 0 ≡ get_or v.waiting e 0
  waiting_old e low = before 0 v.waiting (row deps n) e low

  start_old : (g : ℕ) → g < G → start_of w.starts g ≡ start_of v.starts g
  start_old g low = before none v.starts (own ∷ []) g low

  start_new : start_of w.starts G ≡ own
  start_new = last_at none v.starts own

  place_old : (m : ℕ) → (m ≡ n → ⊥) → place_of w.places m ≡ place_of v.places m
  place_old m apart = set_other v.places n m (Open P) apart

  place_new : place_of w.places n ≡ Open P
  place_new = set_at v.places n (Open P) fits

  -- a fact of each component, old and new
  each : (F : ℕ → Start → Type 0) → ((g : ℕ) → g < G → F g (start_of v.starts g)) → F G own → (g : ℕ) → g < length w.starts → F g (start_of w.starts g)
  each F old new g low = elim (in_pushed none v.starts own g low) [
    | inl is ↦ subst (F g) (sym (start_old g is)) (old g is)
    | inr is ↦ subst (λ h. F h (start_of w.starts h)) (sym is) (subst (F G) (sym start_new) new)
  ]

  nodes_before : (g : ℕ) → g < G → (start_of v.starts g).nodes < P
  nodes_before g low = (s.within g low).0

  edges_before : (g : ℕ) → g < G → (start_of v.starts g).edges ≤ W
  edges_before g low = (s.within g low).1

  grown : (g : ℕ) → g < G → g < length w.starts
  grown g low = let e = length-append v.starts (own ∷ []) in omega (arith, e, low)

  last : G < length w.starts
  last = let e = length-append v.starts (own ∷ []) in omega (arith, e)

  -- ---- what old places of the path see and wait for

  sees_old : (i j : ℕ) → i < P → Sees v.starts i j → Sees w.starts i j
  sees_old i j low sees = each (λ g x. x.nodes ≤ i → x.nodes ≤ j) (λ g l. sees g l) (λ le. absurd (omega (arith, le, low)))

  waits_old : (i e : ℕ) → i < P → Waits v.starts i e → Waits w.starts i e
  waits_old i e low waits = each (λ g x. x.nodes ≤ i → x.edges ≤ e) (λ g l. waits g l) (λ le. absurd (omega (arith, le, low)))

  source_old : (i e : ℕ) → e < W → IsSource v.starts i e → IsSource w.starts i e
  source_old i e low source = each (λ g x. x.edges ≤ e → x.nodes ≤ i) (λ g l. source g l) (λ le. absurd (omega (arith, le, low)))

  back : (i j : ℕ) → Sees w.starts i j → Sees v.starts i j
  back i j sees g low = let h = sees g (grown g low) in subst (λ x. x.nodes ≤ i → x.nodes ≤ j) (start_old g low) h

  sees_new : (i : ℕ) → Sees w.starts i P
  sees_new i = each (λ g x. x.nodes ≤ i → x.nodes ≤ P) (λ g l _. let b = nodes_before g l in omega (arith, b)) (λ _. omega arith)

  waits_new : (i e : ℕ) → W ≤ e → Waits w.starts i e
  waits_new i e high = each (λ g x. x.nodes ≤ i → x.edges ≤ e) (λ g l _. let b = edges_before g l in omega (arith, b, high)) (λ _. high)

  source_new : (e : ℕ) → IsSource w.starts P e
  source_new e = each (λ g x. x.edges ≤ e → x.nodes ≤ P) (λ g l _. let b = nodes_before g l in omega (arith, b)) (λ _. omega arith)

  -- ---- what the search keeps

  placed : (m k : ℕ) → place_of w.places m ≡ Open k → (k < length w.path) × (get_or w.path k 0 ≡ m)
  placed m k e = elim (same_or m n) [
    | inl is ↦
        let here : P ≡ k = open_same (place_of w.places m) P k (ap (place_of w.places) is ∙ place_new) e in
        (omega (arith, longer, here), subst (λ x. get_or w.path x 0 ≡ m) here (path_new ∙ sym is))
    | inr not ↦
        let old = s.placed m k (sym (place_old m not) ∙ e) in
        (omega (arith, longer, old.0), path_old k old.0 ∙ old.1)
  ]

  met_at : (k : ℕ) → k < length w.path → place_of w.places (get_or w.path k 0) ≡ Open k
  met_at k low = elim (in_pushed 0 v.path n k low) [
    | inl old ↦
        let was = s.met k old in
        let apart : get_or v.path k 0 ≡ n → ⊥ = λ is. unmet_open (place_of v.places n) k fresh (sym (ap (place_of v.places) is) ∙ was) in
        ap (place_of w.places) (path_old k old) ∙ place_old (get_or v.path k 0) apart ∙ was
    | inr new ↦ subst (λ x. place_of w.places (get_or w.path x 0) ≡ Open x) (sym new) (ap (place_of w.places) path_new ∙ place_new)
  ]

  ascending : (g h : ℕ) → g < h → h < length w.starts → ((start_of w.starts g).nodes < (start_of w.starts h).nodes) × ((start_of w.starts g).edges ≤ (start_of w.starts h).edges)
  ascending g h low within = elim (in_pushed none v.starts own h within) [
    | inl old ↦
        let g_old : g < G = omega (arith, low, old) in
        subst (λ x. ((start_of w.starts g).nodes < x.nodes) × ((start_of w.starts g).edges ≤ x.edges)) (sym (start_old h old))
        (subst (λ x. (x.nodes < (start_of v.starts h).nodes) × (x.edges ≤ (start_of v.starts h).edges)) (sym (start_old g g_old)) (s.ascending g h low old))
    | inr new ↦
        let g_old : g < G = omega (arith, low, new) in
        subst (λ y. ((start_of w.starts g).nodes < (start_of w.starts y).nodes) × ((start_of w.starts g).edges ≤ (start_of w.starts y).edges)) (sym new)
        (subst (λ x. ((start_of w.starts g).nodes < x.nodes) × ((start_of w.starts g).edges ≤ x.edges)) (sym start_new)
        (subst (λ x. (x.nodes < P) × (x.edges ≤ W)) (sym (start_old g g_old)) (nodes_before g g_old, edges_before g g_old)))
  ]

  within : (g : ℕ) → g < length w.starts → ((start_of w.starts g).nodes < length w.path) × ((start_of w.starts g).edges ≤ length w.waiting)
  within = each (λ g x. (x.nodes < length w.path) × (x.edges ≤ length w.waiting)) (λ g l. let b = nodes_before g l in let c = edges_before g l in (omega (arith, b, longer), omega (arith, c, more)))
      (omega (arith, longer), more)

  covered : (k : ℕ) → k < length w.path → (g : ℕ) × (g < length w.starts) × ((start_of w.starts g).nodes ≤ k)
  covered k low = elim (in_pushed 0 v.path n k low) [
    | inl old ↦ let c = s.covered k old in (c.0, grown c.0 c.1, subst (λ x. x.nodes ≤ k) (sym (start_old c.0 c.1)) c.2)
    | inr new ↦ (G, last, subst (λ x. x.nodes ≤ k) (sym start_new) (omega (arith, new)))
  ]

  leads : (i j : ℕ) → i < length w.path → j < length w.path → Sees w.starts i j → Leads (row deps) (get_or w.path i 0) (get_or w.path j 0)
  leads i j low low' sees = elim (in_pushed 0 v.path n i low) [
    | inl i_old ↦ elim (in_pushed 0 v.path n j low') [
      | inl j_old ↦
          subst (λ a. Leads (row deps) a (get_or w.path j 0)) (sym (path_old i i_old))
          (subst (Leads (row deps) (get_or v.path i 0)) (sym (path_old j j_old)) (s.leads i j i_old j_old (back i j sees)))
      | inr j_new ↦
          subst (λ a. Leads (row deps) a (get_or w.path j 0)) (sym (path_old i i_old))
          (subst (Leads (row deps) (get_or v.path i 0)) (sym (ap (λ x. get_or w.path x 0) j_new ∙ path_new)) (led i i_old))
    ]
    | inr i_new ↦
        let own_le : P ≤ j = subst (λ x. x.nodes ≤ i → x.nodes ≤ j) start_new (sees G last) (omega (arith, i_new)) in
        let j_new : i ≡ j = omega (arith, own_le, low', longer, i_new) in
        leads_itself (row deps) (get_or w.path i 0) (get_or w.path j 0) (ap (λ x. get_or w.path x 0) j_new)
  ]

  settled_old : (i d : ℕ) → i < P → IsSettled deps v i d ⊎ follows d → IsSettled deps w i d
  settled_old i d low (inl (inl c)) =
      let apart : d ≡ n → ⊥ = λ is. unmet_closed (place_of v.places n) c.0 fresh (sym (ap (place_of v.places) is) ∙ c.1) in
      inl (c.0, place_old d apart ∙ c.1)
  settled_old i d low (inl (inr (inl k))) = inr (inl (k.0, omega (arith, k.1, longer), path_old k.0 k.1 ∙ k.2, sees_old i k.0 low k.3))
  settled_old i d low (inl (inr (inr e))) = inr (inr (e.0, omega (arith, e.1, more), waiting_old e.0 e.1 ∙ e.2, waits_old i e.0 low e.3))
  settled_old i d low (inr f) = inr (inl (P, omega (arith, longer), path_new ∙ sym (only d f), sees_new i))

  settled : (i d : ℕ) → i < length w.path → has (row deps (get_or w.path i 0)) d ≡ true → IsSettled deps w i d ⊎ ⊥
  settled i d low h = elim (in_pushed 0 v.path n i low) [
    | inl old ↦ inl (settled_old i d old (s.settled i d old (subst (λ x. has (row deps x) d ≡ true) (path_old i old) h)))
    | inr new ↦
        let mine : has (row deps n) d ≡ true = subst (λ x. has (row deps x) d ≡ true) (ap (λ x. get_or w.path x 0) new ∙ path_new) h in
        let j = has_at (row deps n) d mine in
        let e = length-append v.waiting (row deps n) in
        inl (inr (inr (W + j.0, omega (arith, e, j.1), get_or-append-add v.waiting (row deps n) j.0 0 ∙ j.2, waits_new i (W + j.0) (omega arith))))
  ]

  sources : (e : ℕ) → e < length w.waiting → (i : ℕ) × (i < length w.path) × (has (row deps (get_or w.path i 0)) (get_or w.waiting e 0) ≡ true) × IsSource w.starts i e × Waits w.starts i e
  sources e low = elim (in_joined 0 v.waiting (row deps n) e low) [
    | inl old ↦
        let i = s.sources e old in (
          i.0,
          omega (arith, i.1, longer),
          subst (λ x. has (row deps x) (get_or w.waiting e 0) ≡ true) (sym (path_old i.0 i.1)) (subst (λ x. has (row deps (get_or v.path i.0 0)) x ≡ true) (sym (waiting_old e old)) i.2),
          source_old i.0 e old i.3,
          waits_old i.0 e i.1 i.4,
        )
    | inr new ↦
        let there : get_or w.waiting e 0 ≡ get_or (row deps n) new.0 0 = ap (λ x. get_or w.waiting x 0) new.2 ∙ get_or-append-add v.waiting (row deps n) new.0 0 in (
          P,
          omega (arith, longer),
          subst (λ x. has (row deps x) (get_or w.waiting e 0) ≡ true) (sym path_new) (subst (λ x. has (row deps n) x ≡ true) (sym there) (has-get_or (row deps n) new.0 new.1)),
          source_new e,
          waits_new P e (omega (arith, new.2)),
        )
  ]

  closed_old : (m c : ℕ) → place_of w.places m ≡ Closed c → place_of v.places m ≡ Closed c
  closed_old m c e = elim (same_or m n) [
    | inl is ↦ open_closed (place_of w.places m) P c (ap (place_of w.places) is ∙ place_new) e
    | inr not ↦ sym (place_old m not) ∙ e
  ]

  closed_still : (m c : ℕ) → place_of v.places m ≡ Closed c → place_of w.places m ≡ Closed c
  closed_still m c e =
      let apart : m ≡ n → ⊥ = λ is. unmet_closed (place_of v.places n) c fresh (sym (ap (place_of v.places) is) ∙ e) in
      place_old m apart ∙ e

  pub met_keeps : IsSearch deps (met deps n v)
  met_keeps = record {
    size = length-slice_set v.places n (Open P) ∙ s.size;
    placed = placed;
    met = met_at;
    ascending = ascending;
    within = within;
    covered = covered;
    leads = leads;
    settled = settled;
    sources = sources;
    numbered = λ m c e. s.numbered m c (closed_old m c e);
    behind = λ m c d e h. let b = s.behind m c d (closed_old m c e) h in (b.0, closed_still d b.0 b.1, b.2);
    joined = λ m k c e f. s.joined m k c (closed_old m c e) (closed_old k c f);
  }

  -- what was met stays so
  pub met_still : (m : ℕ) → (place_of v.places m ≡ Unmet → ⊥) → place_of w.places m ≡ Unmet → ⊥
  met_still m was e = elim (same_or m n) [
    | inl is ↦ unmet_open (place_of w.places m) P e (ap (place_of w.places) is ∙ place_new)
    | inr not ↦ was (sym (place_old m not) ∙ e)
  ]

-- An edge is followed: to a closed node, or back to one on the path.
use Rattle.std.proofs.Common.{◌≡◌, ℕ, ◌+◌, ◌-◌, ◌<◌, ◌≤◌, ◌⊎◌, inl, inr, true, List, [], ◌∷◌, ◌++◌, length, get_or, sym, ap, ◌∙◌, subst, arith, length-append}
use Rattle.std.proofs.lemmas.List.{get_or-take}
use Rattle.edges.specs.Rows.{row, has}
use Rattle.edges.specs.Walks.{Leads}
use Rattle.edges.proofs.Lists.{below_or_past, from_has}
use Rattle.components.specs.declared.search.Place.TheVariants.{Open, Closed}
use Rattle.components.specs.declared.search.Start.{Start}
use Rattle.components.specs.Search.{View, place_of, start_of, Sees, Waits, IsSource, IsSettled, IsSearchBut, IsSearch, IsFrom, IsLast}
use Rattle.components.specs.Components.{AreInside}
use Rattle.components.specs.Turns.{IsJoined, popped}
use Rattle.components.proofs.Lists.{before, last_at, leads_trans, leads_edge}

abbrev none : Start
none = record { nodes = 0; edges = 0 }

-- all open components' edges start at or before those of the last one
pub room_left : (deps : List (List ℕ)) (v : View) (top : Start) → IsSearch deps v → IsLast top v.starts → (room : ℕ) → top.edges ≤ room → (g : ℕ) → g < length v.starts → (start_of v.starts g).edges ≤ room
room_left deps v top s last room low g within = elim (below_or_past g (length v.starts - 1)) [
  | inl before ↦
      let a = (s.ascending g (length v.starts - 1) before (omega (arith, within))).1 in
      let e = ap (λ x. x.edges) last.1 in
      omega (arith, a, e, low)
  | inr not ↦
      let is : g ≡ length v.starts - 1 = omega (arith, not, within) in
      let e = ap (λ x. (start_of v.starts x).edges) is ∙ sym (ap (λ x. x.edges) last.1) in
      omega (arith, e, low)
]

module _ (deps : List (List ℕ)) (v : View) (ws : List ℕ) (d : ℕ) (s : IsSearch deps v) (waits : v.waiting ≡ ws ++ d ∷ []) (room : (g : ℕ) → g < length v.starts → (start_of v.starts g).edges ≤ length ws) where
  len : length v.waiting ≡ length ws + 1
  len = ap length waits ∙ length-append ws (d ∷ [])

  old_at : (e : ℕ) → e < length ws → get_or v.waiting e 0 ≡ get_or ws e 0
  old_at e low = ap (λ l. get_or l e 0) waits ∙ before 0 ws (d ∷ []) e low

  last_is : get_or v.waiting (length ws) 0 ≡ d
  last_is = ap (λ l. get_or l (length ws) 0) waits ∙ last_at 0 ws d

  settled : (i x : ℕ) → IsSettled deps v i x ⊎ ⊥ → IsSettled deps (popped ws v) i x ⊎ (x ≡ d)
  settled i x (inl (inl c)) = inl (inl c)
  settled i x (inl (inr (inl k))) = inl (inr (inl k))
  settled i x (inl (inr (inr e))) = elim (below_or_past e.0 (length ws)) [
    | inl old ↦ inl (inr (inr (e.0, old, sym (old_at e.0 old) ∙ e.2, e.3)))
    | inr new ↦ let is : e.0 ≡ length ws = omega (arith, new, e.1, len) in inr (sym e.2 ∙ ap (λ y. get_or v.waiting y 0) is ∙ last_is)
  ]
  settled i x (inr never) = elim never [ ]

  sources : (e : ℕ) → e < length ws → (i : ℕ) × (i < length v.path) × (has (row deps (get_or v.path i 0)) (get_or ws e 0) ≡ true) × IsSource v.starts i e × Waits v.starts i e
  sources e low =
      let i = s.sources e (omega (arith, low, len)) in
      (i.0, i.1, subst (λ x. has (row deps (get_or v.path i.0 0)) x ≡ true) (old_at e low) i.2, i.3, i.4)

  pub popped_keeps : IsSearchBut deps (λ x. x ≡ d) (popped ws v)
  popped_keeps = record {
    size = s.size;
    placed = s.placed;
    met = s.met;
    ascending = s.ascending;
    within = λ g low. ((s.within g low).0, room g low);
    covered = s.covered;
    leads = s.leads;
    settled = λ i x low h. settled i x (s.settled i x low h);
    sources = sources;
    numbered = s.numbered;
    behind = s.behind;
    joined = s.joined;
  }

  pub popped_from : IsFrom deps (popped ws v) d
  popped_from =
      let i = s.sources (length ws) (omega (arith, len)) in
      record {
        source = i.0;
        on = i.1;
        edge = subst (λ x. has (row deps (get_or v.path i.0 0)) x ≡ true) last_is i.2;
        last = λ g low. i.3 g low (room g low);
      }

pub from_inside : (deps : List (List ℕ)) → AreInside deps → (v : View) (d : ℕ) → IsFrom deps v d → d < length deps
from_inside deps inside v d f = inside (get_or v.path f.source 0) d f.edge

module _ (deps : List (List ℕ)) (v : View) (d : ℕ) (s : IsSearchBut deps (λ x. x ≡ d) v) where
  -- the edge leads to a closed node
  pub closed_keeps : (c : ℕ) → place_of v.places d ≡ Closed c → IsSearch deps v
  closed_keeps c e = record {
    size = s.size;
    placed = s.placed;
    met = s.met;
    ascending = s.ascending;
    within = s.within;
    covered = s.covered;
    leads = s.leads;
    settled = λ i x low h. settled i x (s.settled i x low h);
    sources = s.sources;
    numbered = s.numbered;
    behind = s.behind;
    joined = s.joined;
  }
    where
      settled : (i x : ℕ) → IsSettled deps v i x ⊎ (x ≡ d) → IsSettled deps v i x ⊎ ⊥
      settled i x (inl t) = inl t
      settled i x (inr is) = inl (inl (c, ap (place_of v.places) is ∙ e))

  -- every node on the path leads to where the edge leads
  pub led_to : IsFrom deps v d → (i : ℕ) → i < length v.path → Leads (row deps) (get_or v.path i 0) d
  led_to f i low =
      leads_trans (row deps) (get_or v.path i 0) (get_or v.path f.source 0) d (s.leads i f.source low f.on (λ g l _. f.last g l))
      (leads_edge (row deps) (get_or v.path f.source 0) d (from_has (row deps (get_or v.path f.source 0)) d f.edge))

  -- the edge leads to an open one
  module _ (k : ℕ) (at : place_of v.places d ≡ Open k) (f : IsFrom deps v d) (w : View) (j : IsJoined k v w) where
    M : ℕ
    M = length w.starts

    on : k < length v.path
    on = (s.placed d k at).0

    there : get_or v.path k 0 ≡ d
    there = (s.placed d k at).1

    start_is : (g : ℕ) → g < length w.starts → start_of w.starts g ≡ start_of v.starts g
    start_is g low = ap (λ l. get_or l g none) j.starts ∙ get_or-take (length w.starts) v.starts g none low

    old : (g : ℕ) → g < length w.starts → g < length v.starts
    old g low = let e = j.fewer in omega (arith, e, low)

    -- a component that starts at or before the place is still apart
    still : (g : ℕ) → g < length v.starts → (start_of v.starts g).nodes ≤ k → g < length w.starts
    still g low le = elim (below_or_past g (length w.starts)) [
      | inl kept ↦ kept
      | inr gone ↦ let past = j.gone g gone low in absurd (omega (arith, past, le))
    ]

    fewer_see : (i x : ℕ) → Sees v.starts i x → Sees w.starts i x
    fewer_see i x sees g low = subst (λ y. y.nodes ≤ i → y.nodes ≤ x) (sym (start_is g low)) (sees g (old g low))

    fewer_wait : (i e : ℕ) → Waits v.starts i e → Waits w.starts i e
    fewer_wait i e waits g low = subst (λ y. y.nodes ≤ i → y.edges ≤ e) (sym (start_is g low)) (waits g (old g low))

    fewer_source : (i e : ℕ) → IsSource v.starts i e → IsSource w.starts i e
    fewer_source i e source g low = subst (λ y. y.edges ≤ e → y.nodes ≤ i) (sym (start_is g low)) (source g (old g low))

    back : (i x g : ℕ) → Sees w.starts i x → g < length w.starts → (start_of v.starts g).nodes ≤ i → (start_of v.starts g).nodes ≤ x
    back i x g sees low = subst (λ y. y.nodes ≤ i → y.nodes ≤ x) (start_is g low) (sees g low)

    ascending : (g h : ℕ) → g < h → h < length w.starts → ((start_of w.starts g).nodes < (start_of w.starts h).nodes) × ((start_of w.starts g).edges ≤ (start_of w.starts h).edges)
    ascending g h low high =
        subst (λ y. ((start_of w.starts g).nodes < y.nodes) × ((start_of w.starts g).edges ≤ y.edges)) (sym (start_is h high))
        (subst (λ y. (y.nodes < (start_of v.starts h).nodes) × (y.edges ≤ (start_of v.starts h).edges)) (sym (start_is g (omega (arith, low, high)))) (s.ascending g h low (old h high)))

    covered : (i : ℕ) → i < length v.path → (g : ℕ) × (g < length w.starts) × ((start_of w.starts g).nodes ≤ i)
    covered i low =
        let mine = s.covered i low in
        let its = s.covered k on in
        let its_kept = still its.0 its.1 its.2 in
        elim (below_or_past mine.0 (length w.starts)) [
          | inl kept ↦ (mine.0, kept, subst (λ y. y.nodes ≤ i) (sym (start_is mine.0 kept)) mine.2)
          | inr gone ↦
              let past = j.gone mine.0 gone mine.1 in
              (its.0, its_kept, subst (λ y. y.nodes ≤ i) (sym (start_is its.0 its_kept)) (omega (arith, its.2, past, mine.2)))
        ]

    leads : (i x : ℕ) → i < length v.path → x < length v.path → Sees w.starts i x → Leads (row deps) (get_or v.path i 0) (get_or v.path x 0)
    leads i x low low' sees = elim (below_or_past k i) [
      | inl after ↦
          leads_trans (row deps) (get_or v.path i 0) d (get_or v.path x 0) (led_to f i low)
          (subst (λ y. Leads (row deps) y (get_or v.path x 0)) there
          (s.leads k x on low' (λ g l le. back i x g sees (still g l le) (omega (arith, le, after)))))
      | inr by ↦ s.leads i x low low' (λ g l le. back i x g sees (still g l (omega (arith, le, by))) le)
    ]

    settled_on : (i x : ℕ) → IsSettled deps v i x ⊎ (x ≡ d) → IsSettled deps (record { path = v.path; waiting = v.waiting; starts = w.starts; places = v.places; order = v.order }) i x ⊎ ⊥
    settled_on i x (inl (inl c)) = inl (inl c)
    settled_on i x (inl (inr (inl y))) = inl (inr (inl (y.0, y.1, y.2, fewer_see i y.0 y.3)))
    settled_on i x (inl (inr (inr e))) = inl (inr (inr (e.0, e.1, e.2, fewer_wait i e.0 e.3)))
    settled_on i x (inr is) = inl (inr (inl (k, on, there ∙ sym is, λ g low _. subst (λ y. y.nodes ≤ k) (sym (start_is g low)) (j.kept g low))))

    abbrev joined_view : View
    joined_view = record { path = v.path; waiting = v.waiting; starts = w.starts; places = v.places; order = v.order }

    within : (g : ℕ) → g < length w.starts → ((start_of w.starts g).nodes < length v.path) × ((start_of w.starts g).edges ≤ length v.waiting)
    within g low = subst (λ y. (y.nodes < length v.path) × (y.edges ≤ length v.waiting)) (sym (start_is g low)) (s.within g (old g low))

    keeps : IsSearch deps joined_view
    keeps = record {
      size = s.size;
      placed = s.placed;
      met = s.met;
      ascending = ascending;
      within = within;
      covered = covered;
      leads = leads;
      settled = λ i x low h. settled_on i x (s.settled i x low h);
      sources = λ e low. let i = s.sources e low in (i.0, i.1, i.2, fewer_source i.0 e i.3, fewer_wait i.0 e i.4);
      numbered = s.numbered;
      behind = s.behind;
      joined = s.joined;
    }

    is_view : joined_view ≡ w
    is_view = λ i. record { path = sym j.path i; waiting = sym j.waiting i; starts = w.starts; places = sym j.places i; order = sym j.order i }

    pub joined_keeps : IsSearch deps w
    joined_keeps = subst (IsSearch deps) is_view keeps

-- The last open component has no edge left that waits: it is closed.
use Rattle.std.proofs.Common.{◌≡◌, ℕ, ◌+◌, ◌-◌, ◌<◌, ◌≤◌, ◌⊎◌, inl, inr, true, List, [], ◌∷◌, ◌++◌, length, get_or, take, drop, sym, ap, ◌∙◌, subst, arith, refl, length-append, length-drop, true≢false, false, eqb-true}
use Rattle.std.specs.Prelude.{nat_eq, slice_set}
use Rattle.std.proofs.lemmas.List.{get_or-take, get_or-drop, get_or_default, length-take-le}
use Rattle.edges.specs.Rows.{row, has}
use Rattle.edges.specs.Walks.{Leads}
use Rattle.edges.proofs.Tests.{cases_of, not_both, either, neither, isnt}
use Rattle.edges.proofs.Lists.{below_or_past, has_at, has-get_or, apart_of}
use Rattle.components.specs.declared.search.Place.{Place}
use Rattle.components.specs.declared.search.Place.TheVariants.{Unmet, Open, Closed}
use Rattle.components.specs.declared.search.Start.{Start}
use Rattle.components.specs.Search.{View, place_of, start_of, Sees, Waits, IsSource, IsSettled, IsSearch}
use Rattle.components.specs.Turns.{closed_all, closed, work_of}
use Rattle.components.proofs.Work.{closed_less}
use Rattle.components.proofs.Lists.{unmet_closed, open_closed, open_same, closed_same, inside_by, tag, set_at, set_other, length-slice_set, before, last_at}

abbrev none : Start
none = record { nodes = 0; edges = 0 }

-- ---- nodes that are closed together

length-closed_all : (ns : List ℕ) (c : ℕ) (ps : List Place) → length (closed_all ns c ps) ≡ length ps
length-closed_all [] c ps = refl
length-closed_all (n ∷ ns) c ps = length-closed_all ns c (slice_set ps n (Closed c)) ∙ length-slice_set ps n (Closed c)

closed_out : (ns : List ℕ) (c : ℕ) (ps : List Place) (m : ℕ) → has ns m ≡ false → place_of (closed_all ns c ps) m ≡ place_of ps m
closed_out [] c ps m h = refl
closed_out (n ∷ ns) c ps m h =
    let apart = neither (nat_eq m n) (has ns m) h in
    closed_out ns c (slice_set ps n (Closed c)) m apart.1 ∙ set_other ps n m (Closed c) (apart_of m n apart.0)

closed_in : (ns : List ℕ) (c : ℕ) (ps : List Place) (m : ℕ) → m < length ps → has ns m ≡ true → place_of (closed_all ns c ps) m ≡ Closed c
closed_in [] c ps m low h = absurd (true≢false (sym h))
closed_in (n ∷ ns) c ps m low h = elim (cases_of (has ns m)) [
  | inl later ↦ closed_in ns c (slice_set ps n (Closed c)) m (let e = length-slice_set ps n (Closed c) in omega (arith, e, low)) later
  | inr last ↦ elim (either (nat_eq m n) (has ns m) h) [
    | inl is ↦
        let e : m ≡ n = eqb-true m n is in
        closed_out ns c (slice_set ps n (Closed c)) m last ∙ subst (λ x. place_of (slice_set ps n (Closed c)) x ≡ Closed c) (sym e) (set_at ps n (Closed c) (omega (arith, low, e)))
    | inr later ↦ not_both (has ns m) later last
  ]
]

module _ (deps : List (List ℕ)) (v : View) (rest : List Start) (top : Start) (s : IsSearch deps v) (starts : v.starts ≡ rest ++ top ∷ []) (done : length v.waiting ≤ top.edges) where
  abbrev T : ℕ
  T = top.nodes

  abbrev group : List ℕ
  group = drop T v.path

  abbrev C : ℕ
  C = length v.order

  abbrev w : View
  w = closed T rest v

  count : length v.starts ≡ length rest + 1
  count = ap length starts ∙ length-append rest (top ∷ [])

  G : ℕ
  G = length rest

  last : length rest < length v.starts
  last = omega (arith, count)

  top_is : start_of v.starts (length rest) ≡ top
  top_is = ap (λ l. get_or l (length rest) none) starts ∙ last_at none rest top

  rest_is : (g : ℕ) → g < length rest → start_of v.starts g ≡ start_of rest g
  rest_is g low = ap (λ l. get_or l g none) starts ∙ before none rest (top ∷ []) g low

  some : T < length v.path
  some = subst (λ x. x.nodes < length v.path) top_is (s.within (length rest) last).0

  kept : length (take T v.path) ≡ T
  kept = length-take-le T v.path (omega (arith, some))

  path_is : (i : ℕ) → i < T → get_or (take T v.path) i 0 ≡ get_or v.path i 0
  path_is i low = get_or-take T v.path i 0 low

  -- the starts of all components are at or before the last one's
  at_most : (g : ℕ) → g < length v.starts → (start_of v.starts g).nodes ≤ T
  at_most g low = elim (below_or_past g (length rest)) [
    | inl old ↦ let a = (s.ascending g (length rest) old last).0 in let e = ap (λ x. x.nodes) top_is in omega (arith, a, e)
    | inr new ↦ let is : g ≡ length rest = omega (arith, new, low, count) in let e = ap (λ x. (start_of v.starts x).nodes) is ∙ ap (λ x. x.nodes) top_is in omega (arith, e)
  ]

  rest_below : (g : ℕ) → g < length rest → ((start_of rest g).nodes < T) × ((start_of rest g).edges ≤ top.edges)
  rest_below g low =
      subst (λ x. (x.nodes < T) × (x.edges ≤ top.edges)) (rest_is g low)
      (subst (λ y. ((start_of v.starts g).nodes < y.nodes) × ((start_of v.starts g).edges ≤ y.edges)) top_is (s.ascending g (length rest) low last))

  top_sees : (i j : ℕ) → Sees v.starts i j → T ≤ i → T ≤ j
  top_sees i j sees = subst (λ x. x.nodes ≤ i → x.nodes ≤ j) top_is (sees (length rest) last)

  top_waits : (i e : ℕ) → Waits v.starts i e → T ≤ i → top.edges ≤ e
  top_waits i e waits = subst (λ x. x.nodes ≤ i → x.edges ≤ e) top_is (waits (length rest) last)

  -- ---- the nodes of the component are those of the path from its start on

  in_group : (i : ℕ) → T ≤ i → i < length v.path → has group (get_or v.path i 0) ≡ true
  in_group i le low =
      let e = length-drop T v.path in
      let h = has-get_or group (i - T) (omega (arith, e, le, low)) in
      let is : get_or group (i - T) 0 ≡ get_or v.path i 0 = get_or-drop T v.path (i - T) 0 ∙ ap (λ x. get_or v.path x 0) (omega (arith, le)) in
      subst (λ x. has group x ≡ true) is h

  from_group : (m : ℕ) → has group m ≡ true → (i : ℕ) × (T ≤ i) × (i < length v.path) × (get_or v.path i 0 ≡ m)
  from_group m h =
      let k = has_at group m h in
      let e = length-drop T v.path in
      (T + k.0, omega arith, omega (arith, e, k.1), sym (get_or-drop T v.path k.0 0) ∙ k.2)

  open_in : (m : ℕ) → has group m ≡ true → (i : ℕ) × (T ≤ i) × (place_of v.places m ≡ Open i)
  open_in m h = let i = from_group m h in (i.0, i.1, subst (λ x. place_of v.places x ≡ Open i.0) i.3 (s.met i.0 i.2))

  -- a node below isn't of it
  below_out : (k : ℕ) → k < T → has group (get_or v.path k 0) ≡ false
  below_out k low = isnt (has group (get_or v.path k 0)) (λ h.
      let o = open_in (get_or v.path k 0) h in
      let is = open_same (place_of v.places (get_or v.path k 0)) o.0 k o.2 (s.met k (omega (arith, low, some))) in
      absurd (omega (arith, is, o.1, low)))

  closed_of : (m : ℕ) → has group m ≡ true → place_of w.places m ≡ Closed C
  closed_of m h = let o = open_in m h in closed_in group C v.places m (inside_by v.places m (Open o.0) o.2 (λ e. absurd (omega (arith, ap tag e)))) h

  out_of : (m : ℕ) → has group m ≡ false → place_of w.places m ≡ place_of v.places m
  out_of m h = closed_out group C v.places m h

  -- what was closed stays so
  closed_still : (m c : ℕ) → place_of v.places m ≡ Closed c → place_of w.places m ≡ Closed c
  closed_still m c e =
      let out : has group m ≡ false = isnt (has group m) (λ h. let o = open_in m h in open_closed (place_of v.places m) o.0 c o.2 e) in
      out_of m out ∙ e

  -- ---- what the search keeps

  placed : (m k : ℕ) → place_of w.places m ≡ Open k → (k < length w.path) × (get_or w.path k 0 ≡ m)
  placed m k e = elim (cases_of (has group m)) [
    | inl h ↦ open_closed (place_of w.places m) k C e (closed_of m h)
    | inr out ↦
        let p = s.placed m k (sym (out_of m out) ∙ e) in
        elim (below_or_past k T) [
          | inl low ↦ (omega (arith, kept, low), path_is k low ∙ p.1)
          | inr high ↦ not_both (has group m) (subst (λ x. has group x ≡ true) p.1 (in_group k high p.0)) out
        ]
  ]

  met_at : (k : ℕ) → k < length w.path → place_of w.places (get_or w.path k 0) ≡ Open k
  met_at k low =
      let below : k < T = omega (arith, kept, low) in
      ap (place_of w.places) (path_is k below) ∙ out_of (get_or v.path k 0) (below_out k below) ∙ s.met k (omega (arith, below, some))

  ascending : (g h : ℕ) → g < h → h < length rest → ((start_of rest g).nodes < (start_of rest h).nodes) × ((start_of rest g).edges ≤ (start_of rest h).edges)
  ascending g h low high =
      subst (λ y. ((start_of rest g).nodes < y.nodes) × ((start_of rest g).edges ≤ y.edges)) (rest_is h high)
      (subst (λ y. (y.nodes < (start_of v.starts h).nodes) × (y.edges ≤ (start_of v.starts h).edges)) (rest_is g (omega (arith, low, high))) (s.ascending g h low (omega (arith, high, count))))

  within : (g : ℕ) → g < length rest → ((start_of rest g).nodes < length w.path) × ((start_of rest g).edges ≤ length v.waiting)
  within g low =
      let b = rest_below g low in
      let t = (s.within (length rest) last).1 in
      let e = ap (λ x. x.edges) top_is in
      (omega (arith, b.0, kept), omega (arith, b.1, t, e))

  covered : (k : ℕ) → k < length w.path → (g : ℕ) × (g < length rest) × ((start_of rest g).nodes ≤ k)
  covered k low =
      let below : k < T = omega (arith, kept, low) in
      let c = s.covered k (omega (arith, below, some)) in
      elim (below_or_past c.0 (length rest)) [
        | inl old ↦ (c.0, old, subst (λ x. x.nodes ≤ k) (rest_is c.0 old) c.2)
        | inr new ↦ let is : c.0 ≡ length rest = omega (arith, new, c.1, count) in let e = ap (λ x. (start_of v.starts x).nodes) is ∙ ap (λ x. x.nodes) top_is in absurd (omega (arith, e, c.2, below))
      ]

  -- a fact of each component, where the last one doesn't matter
  all_of : (F : Start → Type 0) → ((g : ℕ) → g < length rest → F (start_of rest g)) → F top → (g : ℕ) → g < length v.starts → F (start_of v.starts g)
  all_of F old new g low = elim (below_or_past g (length rest)) [
    | inl is ↦ subst F (sym (rest_is g is)) (old g is)
    | inr is ↦ let e : g ≡ length rest = omega (arith, is, low, count) in subst (λ x. F (start_of v.starts x)) (sym e) (subst F (sym top_is) new)
  ]

  rest_of : (F : Start → Type 0) → ((g : ℕ) → g < length v.starts → F (start_of v.starts g)) → (g : ℕ) → g < length rest → F (start_of rest g)
  rest_of F all g low = subst F (rest_is g low) (all g (omega (arith, low, count)))

  leads : (i j : ℕ) → i < length w.path → j < length w.path → Sees rest i j → Leads (row deps) (get_or w.path i 0) (get_or w.path j 0)
  leads i j low low' sees =
      let i_low : i < T = omega (arith, kept, low) in
      let j_low : j < T = omega (arith, kept, low') in
      let all : Sees v.starts i j = all_of (λ x. x.nodes ≤ i → x.nodes ≤ j) sees (λ le. absurd (omega (arith, le, i_low))) in
      subst (λ a. Leads (row deps) a (get_or w.path j 0)) (sym (path_is i i_low))
      (subst (Leads (row deps) (get_or v.path i 0)) (sym (path_is j j_low)) (s.leads i j (omega (arith, i_low, some)) (omega (arith, j_low, some)) all))

  settled_below : (i d : ℕ) → i < T → IsSettled deps v i d ⊎ ⊥ → IsSettled deps w i d ⊎ ⊥
  settled_below i d low (inl (inl c)) = inl (inl (c.0, closed_still d c.0 c.1))
  settled_below i d low (inl (inr (inl k))) = elim (below_or_past k.0 T) [
    | inl below ↦ inl (inr (inl (k.0, omega (arith, below, kept), path_is k.0 below ∙ k.2, rest_of (λ x. x.nodes ≤ i → x.nodes ≤ k.0) k.3)))
    | inr high ↦ inl (inl (C, closed_of d (subst (λ x. has group x ≡ true) k.2 (in_group k.0 high k.1))))
  ]
  settled_below i d low (inl (inr (inr e))) = inl (inr (inr (e.0, e.1, e.2, rest_of (λ x. x.nodes ≤ i → x.edges ≤ e.0) e.3)))
  settled_below i d low (inr x) = elim x [ ]

  settled : (i d : ℕ) → i < length w.path → has (row deps (get_or w.path i 0)) d ≡ true → IsSettled deps w i d ⊎ ⊥
  settled i d low h =
      let below : i < T = omega (arith, kept, low) in
      settled_below i d below (s.settled i d (omega (arith, below, some)) (subst (λ x. has (row deps x) d ≡ true) (path_is i below) h))

  sources : (e : ℕ) → e < length v.waiting → (i : ℕ) × (i < length w.path) × (has (row deps (get_or w.path i 0)) (get_or v.waiting e 0) ≡ true) × IsSource rest i e × Waits rest i e
  sources e low =
      let i = s.sources e low in
      elim (below_or_past i.0 T) [
        | inl below ↦ (
          i.0,
          omega (arith, below, kept),
          subst (λ x. has (row deps x) (get_or v.waiting e 0) ≡ true) (sym (path_is i.0 below)) i.2,
          rest_of (λ x. x.edges ≤ e → x.nodes ≤ i.0) i.3,
          rest_of (λ x. x.nodes ≤ i.0 → x.edges ≤ e) i.4,
        )
        | inr high ↦ let past = top_waits i.0 e i.4 high in absurd (omega (arith, past, low, done))
      ]

  longer : length w.order ≡ C + (length v.path - T)
  longer = length-append v.order group ∙ ap (λ x. C + x) (length-drop T v.path)

  numbered : (m c : ℕ) → place_of w.places m ≡ Closed c → c < length w.order
  numbered m c e = elim (cases_of (has group m)) [
    | inl h ↦ let is = closed_same (place_of w.places m) C c (closed_of m h) e in omega (arith, longer, some, is)
    | inr out ↦ let was = s.numbered m c (sym (out_of m out) ∙ e) in omega (arith, longer, was)
  ]

  -- an edge from a node of the component leads to a closed one, or to one of it
  leads_within : (i d c : ℕ) → T ≤ i → C ≡ c → IsSettled deps v i d ⊎ ⊥ → (e : ℕ) × (place_of w.places d ≡ Closed e) × (e ≤ c)
  leads_within i d c high is (inl (inl x)) = let b = s.numbered d x.0 x.1 in (x.0, closed_still d x.0 x.1, omega (arith, b, is))
  leads_within i d c high is (inl (inr (inl k))) =
      (C, closed_of d (subst (λ x. has group x ≡ true) k.2 (in_group k.0 (top_sees i k.0 k.3 high) k.1)), omega (arith, is))
  leads_within i d c high is (inl (inr (inr e))) = let past = top_waits i e.0 e.3 high in absurd (omega (arith, past, e.1, done))
  leads_within i d c high is (inr x) = elim x [ ]

  behind : (m c d : ℕ) → place_of w.places m ≡ Closed c → has (row deps m) d ≡ true → (e : ℕ) × (place_of w.places d ≡ Closed e) × (e ≤ c)
  behind m c d e h = elim (cases_of (has group m)) [
    | inl mine ↦
        let i = from_group m mine in
        leads_within i.0 d c i.1 (closed_same (place_of w.places m) C c (closed_of m mine) e)
        (s.settled i.0 d i.2 (subst (λ x. has (row deps x) d ≡ true) (sym i.3) h))
    | inr out ↦ let b = s.behind m c d (sym (out_of m out) ∙ e) h in (b.0, closed_still d b.0 b.1, b.2)
  ]

  joined_in : (m k : ℕ) → has group m ≡ true → has group k ≡ true → Leads (row deps) m k
  joined_in m k h h' =
      let i = from_group m h in
      let j = from_group k h' in
      subst (λ a. Leads (row deps) a k) i.3 (subst (Leads (row deps) (get_or v.path i.0 0)) j.3 (s.leads i.0 j.0 i.2 j.2 (λ g low _. let a = at_most g low in omega (arith, a, j.1))))

  joined : (m k c : ℕ) → place_of w.places m ≡ Closed c → place_of w.places k ≡ Closed c → Leads (row deps) m k
  joined m k c e f = elim (cases_of (has group m)) [
    | inl h ↦ elim (cases_of (has group k)) [
      | inl h' ↦ joined_in m k h h'
      | inr out ↦
          let is = closed_same (place_of w.places m) C c (closed_of m h) e in
          let low = s.numbered k c (sym (out_of k out) ∙ f) in
          absurd (omega (arith, is, low))
    ]
    | inr out ↦ elim (cases_of (has group k)) [
      | inl h' ↦
          let is = closed_same (place_of w.places k) C c (closed_of k h') f in
          let low = s.numbered m c (sym (out_of m out) ∙ e) in
          absurd (omega (arith, is, low))
      | inr out' ↦ s.joined m k c (sym (out_of m out) ∙ e) (sym (out_of k out') ∙ f)
    ]
  ]

  pub closing_keeps : IsSearch deps w
  closing_keeps = record {
    size = length-closed_all group C v.places ∙ s.size;
    placed = placed;
    met = met_at;
    ascending = ascending;
    within = within;
    covered = covered;
    leads = leads;
    settled = settled;
    sources = sources;
    numbered = numbered;
    behind = behind;
    joined = joined;
  }

  -- what was met stays so
  pub closing_still : (m : ℕ) → (place_of v.places m ≡ Unmet → ⊥) → place_of w.places m ≡ Unmet → ⊥
  closing_still m was e = elim (cases_of (has group m)) [
    | inl h ↦ unmet_closed (place_of w.places m) C e (closed_of m h)
    | inr out ↦ was (sym (out_of m out) ∙ e)
  ]

  -- something is done
  pub closing_work : work_of deps w < work_of deps v
  closing_work = let less = closed_less deps group C v.places in omega (arith, less, count)

  pub top_within : T ≤ length v.path
  top_within = omega (arith, some)

-- the nodes on the path have places
pub path_inside : (deps : List (List ℕ)) (v : View) → IsSearch deps v → (k d : ℕ) → k < length v.path → get_or v.path k d < length v.places
path_inside deps v s k d low = inside_by v.places (get_or v.path k d) (Open k) (ap (place_of v.places) (get_or_default v.path k d 0 low) ∙ s.met k low) (λ e. absurd (omega (arith, ap tag e)))

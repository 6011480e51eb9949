-- No component is open: what was met is closed, and the numbers are those of the components.
use Rattle.std.proofs.Common.{◌≡◌, ◌≢◌, ℕ, zero, suc, ◌+◌, ◌<◌, ◌≤◌, inl, inr, true, List, [], ◌∷◌, length, map, get_or, sym, ap, ◌∙◌, subst, arith, refl, Contains}
use Rattle.std.specs.Prelude.{slice_index}
use Rattle.std.proofs.lemmas.List.{get_or_past, get_or_default}
use Rattle.edges.specs.Rows.{row, has}
use Rattle.edges.specs.Walks.{Walk, OnCycle}
use Rattle.edges.proofs.Lists.{below_or_past, to_has, from_has, has-get_or}
use Rattle.components.specs.declared.search.Place.{Place}
use Rattle.components.specs.declared.search.Place.TheVariants.{Unmet, Open, Closed}
use Rattle.components.specs.Components.{AreInside, AreComponents}
use Rattle.components.specs.Search.{View, place_of, IsSearch, IsResting, IsBlank, number_of}
use Rattle.components.specs.Turns.{met}
use Rattle.components.proofs.Lists.{unmet_open, unmet_closed, closed_same, set_at, leads_edge}
use Rattle.components.proofs.Meeting.{met_keeps, met_still}

no_start : {P : Type 0} (v : View) → v.starts ≡ [] → (g : ℕ) → g < length v.starts → P
no_start v e g low = let n = ap length e in absurd (omega (arith, n, low))

blank_at : {P : Type 0} (xs : List ℕ) → xs ≡ [] → (k : ℕ) → k < length xs → P
blank_at xs e k low = let n = ap length e in absurd (omega (arith, n, low))

pub blank_rests : (deps : List (List ℕ)) (v : View) → IsBlank (length deps) v → IsResting deps 0 v
blank_rests deps v b = record {
  search = record {
    size = b.size;
    placed = λ n k e. unmet_open (place_of v.places n) k (b.places n) e;
    met = λ k low. blank_at v.path b.path k low;
    ascending = λ g h low high. no_start v b.starts h high;
    within = λ g low. no_start v b.starts g low;
    covered = λ k low. blank_at v.path b.path k low;
    leads = λ i j low. blank_at v.path b.path i low;
    settled = λ i d low. blank_at v.path b.path i low;
    sources = λ e low. blank_at v.waiting b.waiting e low;
    numbered = λ n c e. unmet_closed (place_of v.places n) c (b.places n) e;
    behind = λ n c d e. unmet_closed (place_of v.places n) c (b.places n) e;
    joined = λ n m c e. unmet_closed (place_of v.places n) c (b.places n) e;
  };
  none = b.starts;
  all = λ n low. absurd (omega (arith, low));
}

module _ (deps : List (List ℕ)) (v : View) where
  -- with no open component the path is empty
  off_path : {P : Type 0} (n : ℕ) → IsResting deps n v → (k : ℕ) → k < length v.path → P
  off_path n r k low = let c = r.search.covered k low in no_start v r.none c.0 c.1

  pub rests_met : (n : ℕ) → IsResting deps n v → place_of v.places n ≡ Unmet → n < length deps → IsSearch deps (met deps n v)
  rests_met n r fresh inside = met_keeps deps v n (λ d. ⊥) r.search fresh inside (λ i low. off_path n r i low) (λ d never. absurd never)

  pub rests_on : (n : ℕ) → IsResting deps n v → place_of v.places n ≡ Unmet → n < length deps → (w : View) → IsSearch deps w → w.starts ≡ [] → ((m : ℕ) → place_of (met deps n v).places m ≢ Unmet → place_of w.places m ≢ Unmet) → IsResting deps (n + 1) w
  rests_on n r fresh inside w s none still = record {
    search = s;
    none = none;
    all = λ m low. elim (below_or_past m n) [
      | inl old ↦ still m (met_still deps v n (λ d. ⊥) r.search fresh inside (λ i l. off_path n r i l) (λ d never. absurd never) m (r.all m old))
      | inr new ↦
          let is : m ≡ n = omega (arith, low, new) in
          subst (λ x. place_of w.places x ≢ Unmet) (sym is)
          (still n (λ e. unmet_open (place_of (met deps n v).places n) (length v.path) e (set_at v.places n (Open (length v.path)) (let z = r.search.size in omega (arith, z, inside)))))
    ];
  }

  pub rests_still : (n : ℕ) → IsResting deps n v → (place_of v.places n ≡ Unmet → ⊥) → IsResting deps (n + 1) v
  rests_still n r was = record {
    search = r.search;
    none = r.none;
    all = λ m low. elim (below_or_past m n) [
      | inl old ↦ r.all m old
      | inr new ↦ let is : m ≡ n = omega (arith, low, new) in subst (λ x. place_of v.places x ≢ Unmet) (sym is) was
    ];
  }

  module _ (r : IsResting deps (length deps) v) where
    closed_by : (n : ℕ) (p : Place) → place_of v.places n ≡ p → n < length deps → (c : ℕ) × (place_of v.places n ≡ Closed c)
    closed_by n Unmet e low = absurd (r.all n low e)
    closed_by n (Open k) e low = off_path (length deps) r k (r.search.placed n k e).0
    closed_by n (Closed c) e low = (c, e)

    all_closed : (n : ℕ) → n < length deps → (c : ℕ) × (place_of v.places n ≡ Closed c)
    all_closed n low = closed_by n (place_of v.places n) refl low

    number_at : (ps : List Place) (n : ℕ) → get_or (map number_of ps) n 0 ≡ number_of (place_of ps n)
    number_at [] n = refl
    number_at (p ∷ ps) zero = refl
    number_at (p ∷ ps) (suc n) = number_at ps n

    number_is : (n c : ℕ) → place_of v.places n ≡ Closed c → get_or (map number_of v.places) n 0 ≡ c
    number_is n c e = number_at v.places n ∙ ap number_of e

    length-map : (ps : List Place) → length (map number_of ps) ≡ length ps
    length-map [] = refl
    length-map (p ∷ ps) = ap suc (length-map ps)

    -- no walk leads to a greater number
    falls : (k n m c : ℕ) → place_of v.places n ≡ Closed c → Walk (row deps) k n m → (e : ℕ) × (place_of v.places m ≡ Closed e) × (e ≤ c)
    falls zero n m c at w = (c, subst (λ x. place_of v.places x ≡ Closed c) w at, omega arith)
    falls (suc k) n m c at w =
        let next = r.search.behind n c w.0 at (to_has (row deps n) w.0 w.1) in
        let later = falls k w.0 m next.0 next.1 w.2 in
        (later.0, later.1, omega (arith, next.2, later.2))

    pub rests_components : AreComponents deps (map number_of v.places)
    rests_components = record {
      size = length-map v.places ∙ r.search.size;
      together = λ n m low low'.
          let a = all_closed n low in
          let b = all_closed m low' in (
            λ same.
                let is : a.0 ≡ b.0 = sym (number_is n a.0 a.1) ∙ same ∙ number_is m b.0 b.1 in
                let b' : place_of v.places m ≡ Closed a.0 = b.1 ∙ ap Closed (sym is) in
                (r.search.joined n m a.0 a.1 b', r.search.joined m n a.0 b' a.1),
            λ both.
                let there = falls both.0.0 n m a.0 a.1 both.0.1 in
                let back = falls both.1.0 m n b.0 b.1 both.1.1 in
                let e = closed_same (place_of v.places m) there.0 b.0 there.1 b.1 in
                let f = closed_same (place_of v.places n) back.0 a.0 back.1 a.1 in
                number_is n a.0 a.1 ∙ omega (arith, there.2, back.2, e, f) ∙ sym (number_is m b.0 b.1),
          );
      after = λ n d h. after n d h;
    }
      where
        after : (n d : ℕ) → has (row deps n) d ≡ true → slice_index (map number_of v.places) d ≤ slice_index (map number_of v.places) n
        after n d h = elim (below_or_past n (length deps)) [
          | inl low ↦
              let a = all_closed n low in
              let b = r.search.behind n a.0 d a.1 h in
              let e = number_is n a.0 a.1 in
              let f = number_is d b.0 b.1 in
              omega (arith, e, f, b.2)
          | inr past ↦ absurd (no_row n past (from_has (row deps n) d h))
        ]
          where
            no_row : (n : ℕ) → length deps ≤ n → Contains (row deps n) d → ⊥
            no_row n past c = let none = ap length (get_or_past deps n [] past) in omega (arith, none, c.1)

-- ---- a node on a cycle

-- what is read of a row is listed in it
pub listed : (ds : List ℕ) (now : List ℕ) (i d : ℕ) → now ≡ ds → i < length now → d ≡ get_or now i d → has ds d ≡ true
listed ds now i d same low is =
    subst (λ x. has x d ≡ true) same (subst (λ x. has now x ≡ true) (get_or_default now i 0 d low ∙ sym is) (has-get_or now i low))

module _ (deps : List (List ℕ)) (inside : AreInside deps) (numbers : List ℕ) (c : AreComponents deps numbers) (n : ℕ) (low : n < length deps) where
  pub cycle_by : (d : ℕ) → Contains (row deps n) d → get_or numbers d 0 ≡ get_or numbers n 0 → OnCycle (row deps) n
  cycle_by d has same = let back = ((c.together d n (inside n d (to_has (row deps n) d has)) low).0 same).0 in (back.0, (d, has, back.1))

  pub no_cycle_by : ((i : ℕ) → i < length (row deps n) → get_or numbers (get_or (row deps n) i 0) 0 ≢ get_or numbers n 0) → OnCycle (row deps) n → ⊥
  no_cycle_by none cycle =
      let d = cycle.1.0 in
      let has = cycle.1.1 in
      let same = (c.together d n (inside n d (to_has (row deps n) d has)) low).1 ((cycle.0, cycle.1.2), leads_edge (row deps) n d has) in
      none has.0 has.1 (ap (λ x. get_or numbers x 0) (get_or_default (row deps n) has.0 0 d has.1 ∙ has.2) ∙ same)

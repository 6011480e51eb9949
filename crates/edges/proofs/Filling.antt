-- Lists that fill up: one entry more, full lists, and rooms that stand one behind the other.
use Rattle.std.proofs.Common.{◌≡◌, ℕ, ◌+◌, ◌-◌, ◌<◌, ◌≤◌, inl, inr, List, [], ◌∷◌, ◌++◌, length, map, get_or, take, drop, set, sym, ap, ◌∙◌, subst, arith, eqb-true}
use Rattle.std.specs.Prelude.{nat_eq}
use Rattle.std.specs.List.{range_with_len, slice_range, sum}
use Rattle.std.proofs.lemmas.List.{length-drop, length-set, take_all, get_or-take, get_or-drop, get_or-set_same, get_or-set_other, ext_get_or, drop-set-add, take_more_set, take-take}
use Rattle.std.proofs.lemmas.List.FromFn.{length-map-range_with_len, get_or-map-range_with_len, fill_by_all}
use Rattle.std.proofs.lemmas.List.Sums.{sum_by_more, sum_by-take-le}
use Rattle.edges.specs.Rows.{row}
use Rattle.edges.specs.Flat.{flat_rows}
use Rattle.edges.specs.Rooms.{filled, rooms, sum_to, IsRoomy}
use Rattle.edges.proofs.Tests.{cases_of}
use Rattle.edges.proofs.Lists.{apart_of, sides}
use Rattle.edges.proofs.Flat.{length-part, flat_len, flat_at}

-- ---- parts of a list

part_at : (xs : List ℕ) (a b i : ℕ) → a + i < b → get_or (slice_range xs a b) i 0 ≡ get_or xs (a + i) 0
part_at xs a b i low = get_or-take (b - a) (drop a xs) i 0 (omega (arith, low)) ∙ get_or-drop a xs i 0

-- a write elsewhere
part_set : (xs : List ℕ) (a b p v : ℕ) → b ≤ length xs → ((i : ℕ) → a ≤ i → i < b → i ≡ p → ⊥) → slice_range (set xs p v) a b ≡ slice_range xs a b
part_set xs a b p v inside apart =
    let now : length (slice_range (set xs p v) a b) ≡ b - a = length-part (set xs p v) a b (let l = length-set xs p v in omega (arith, l, inside)) in
    let was : length (slice_range xs a b) ≡ b - a = length-part xs a b inside in
    ext_get_or 0 (slice_range (set xs p v) a b) (slice_range xs a b) (now ∙ sym was)
    (λ i low.
    let short : a + i < b = omega (arith, low, now) in
    part_at (set xs p v) a b i short ∙ get_or-set_other xs p (a + i) v 0 (apart (a + i) (omega arith) short) ∙ sym (part_at xs a b i short))

-- a write behind the part, which takes it in
part_grow : (xs : List ℕ) (a p v : ℕ) → a ≤ p → p < length xs → slice_range (set xs p v) a (p + 1) ≡ slice_range xs a p ++ v ∷ []
part_grow xs a p v low high =
    let at : a + (p - a) ≡ p = omega (arith, low) in
    let one : (p + 1) - a ≡ (p - a) + 1 = omega (arith, low) in
    let room : p - a < length (drop a xs) = let d = length-drop a xs in omega (arith, d, low, high) in
    ap (λ q. take ((p + 1) - a) (drop a (set xs q v))) (sym at)
    ∙ ap (take ((p + 1) - a)) (drop-set-add a xs (p - a) v)
    ∙ ap (λ k. take k (set (drop a xs) (p - a) v)) one
    ∙ take_more_set (drop a xs) (p - a) v room

-- ---- the lists

pub filled_len : (starts ends entries : List ℕ) → length (filled starts ends entries) ≡ length ends
filled_len starts ends entries = length-map-range_with_len (λ n. slice_range entries (get_or starts n 0) (get_or ends n 0)) 0 (length ends)

pub filled_at : (starts ends entries : List ℕ) (n : ℕ) → n < length ends → row (filled starts ends entries) n ≡ slice_range entries (get_or starts n 0) (get_or ends n 0)
filled_at starts ends entries n low = get_or-map-range_with_len (λ n. slice_range entries (get_or starts n 0) (get_or ends n 0)) 0 (length ends) n n [] low (omega arith)

rooms_at : (starts : List ℕ) (count n : ℕ) → n < count → get_or (rooms starts count) n 0 ≡ get_or starts (n + 1) 0 - get_or starts n 0
rooms_at starts count n low = get_or-map-range_with_len (λ n. get_or starts (n + 1) 0 - get_or starts n 0) 0 count n n 0 low (omega arith)

module _ (starts ends entries : List ℕ) (is : IsRoomy starts ends entries) where
  -- no room ends past the entries
  room_inside : (n : ℕ) → n < length ends → get_or starts (n + 1) 0 ≤ length entries
  room_inside n low =
      let next : n + 1 < length starts = omega (arith, low, is.count) in
      let top = is.flat.climbs (n + 1) (length starts - 1) (omega (arith, next)) (omega (arith, next)) in
      omega (arith, top, is.flat.ends)

  list_len : (n : ℕ) → n < length ends → length (row (filled starts ends entries) n) ≡ get_or ends n 0 - get_or starts n 0
  list_len n low =
      ap length (filled_at starts ends entries n low) ∙ length-part entries (get_or starts n 0) (get_or ends n 0) (let w = is.within n low in let r = room_inside n low in omega (arith, w.1, r))

  -- where there is room the next entry is within it
  pub has_room : (n : ℕ) → n < length ends → length (row (filled starts ends entries) n) < get_or (rooms starts (length ends)) n 0 → (get_or ends n 0 < get_or starts (n + 1) 0) × (get_or ends n 0 < length entries)
  has_room n low some =
      let l = list_len n low in
      let r = rooms_at starts (length ends) n low in
      let w = is.within n low in
      let top = room_inside n low in
      (omega (arith, l, r, w.0, some), omega (arith, l, r, w.0, some, top))

  module _ (d v : ℕ) (node : d < length ends) (some : get_or ends d 0 < get_or starts (d + 1) 0) where
    next : List ℕ
    next = set ends d (get_or ends d 0 + 1)

    at_next : get_or next d 0 ≡ get_or ends d 0 + 1
    unfolding next
    at_next = get_or-set_same ends d (get_or ends d 0 + 1) 0 node

    others : (n : ℕ) → (n ≡ d → ⊥) → get_or next n 0 ≡ get_or ends n 0
    unfolding next
    others n apart = get_or-set_other ends d n (get_or ends d 0 + 1) 0 apart

    -- the write falls into no other list
    elsewhere : (n : ℕ) → n < length ends → (n ≡ d → ⊥) → (i : ℕ) → get_or starts n 0 ≤ i → i < get_or ends n 0 → i ≡ get_or ends d 0 → ⊥
    elsewhere n low apart i from to e =
        let mine = is.within d node in
        let theirs = is.within n low in
        elim (sides n d apart) [
          | inl before ↦ let b = is.flat.climbs (n + 1) d (omega (arith, before)) (omega (arith, node, is.count)) in omega (arith, b, mine.0, theirs.1, to, e)
          | inr behind ↦ let b = is.flat.climbs (d + 1) n (omega (arith, behind)) (omega (arith, low, is.count)) in omega (arith, b, some, from, e)
        ]

    after : List ℕ
    after = set entries (get_or ends d 0) v

    top : get_or ends d 0 < length entries
    top = let r = room_inside d node in omega (arith, r, some)

    next_len : length next ≡ length ends
    unfolding next
    next_len = length-set ends d (get_or ends d 0 + 1)

    pushed : List (List ℕ)
    pushed = set (filled starts ends entries) d (row (filled starts ends entries) d ++ v ∷ [])

    same_length : length (filled starts next after) ≡ length pushed
    unfolding pushed
    same_length = filled_len starts next after ∙ next_len ∙ sym (length-set (filled starts ends entries) d (row (filled starts ends entries) d ++ v ∷ []) ∙ filled_len starts ends entries)

    list_mine : row (filled starts next after) d ≡ row pushed d
    unfolding after pushed
    list_mine =
        let w = is.within d node in
        filled_at starts next after d (omega (arith, node, next_len))
        ∙ ap (λ e. slice_range after (get_or starts d 0) e) at_next
        ∙ part_grow entries (get_or starts d 0) (get_or ends d 0) v w.0 top
        ∙ ap (λ r. r ++ v ∷ []) (sym (filled_at starts ends entries d node))
        ∙ sym (get_or-set_same (filled starts ends entries) d (row (filled starts ends entries) d ++ v ∷ []) [] (omega (arith, node, filled_len starts ends entries)))

    list_other : (n : ℕ) → n < length ends → (n ≡ d → ⊥) → row (filled starts next after) n ≡ row pushed n
    unfolding after pushed
    list_other n low apart =
        let w = is.within n low in
        let r = room_inside n low in
        filled_at starts next after n (omega (arith, low, next_len))
        ∙ ap (λ e. slice_range after (get_or starts n 0) e) (others n apart)
        ∙ part_set entries (get_or starts n 0) (get_or ends n 0) (get_or ends d 0) v (omega (arith, w.1, r)) (elsewhere n low apart)
        ∙ sym (filled_at starts ends entries n low)
        ∙ sym (get_or-set_other (filled starts ends entries) d n (row (filled starts ends entries) d ++ v ∷ []) [] apart)

    -- one entry more in its room
    pub filled_push : filled starts (set ends d (get_or ends d 0 + 1)) (set entries (get_or ends d 0) v) ≡ set (filled starts ends entries) d (row (filled starts ends entries) d ++ v ∷ [])
    unfolding next after pushed
    filled_push = ext_get_or [] (filled starts next after) pushed same_length
        (λ n low.
        let inside : n < length ends = omega (arith, low, filled_len starts next after, next_len) in
        elim (cases_of (nat_eq n d)) [
          | inl same ↦ subst (λ m. row (filled starts next after) m ≡ row pushed m) (sym (eqb-true n d same)) list_mine
          | inr other ↦ list_other n inside (apart_of n d other)
        ])

    -- and what stays
    pub roomy_push : IsRoomy starts (set ends d (get_or ends d 0 + 1)) (set entries (get_or ends d 0) v)
    unfolding next after
    roomy_push = record {
      flat = record { some = is.flat.some; begins = is.flat.begins; climbs = is.flat.climbs; ends = is.flat.ends ∙ sym (length-set entries (get_or ends d 0) v) };
      count = is.count ∙ ap (λ n. n + 1) (sym next_len);
      within = λ n low.
          let inside : n < length ends = omega (arith, low, next_len) in
          let w = is.within n inside in
          elim (cases_of (nat_eq n d)) [
            | inl same ↦
                let e = eqb-true n d same in
                let now : get_or next n 0 ≡ get_or ends n 0 + 1 = subst (λ m. get_or next m 0 ≡ get_or ends m 0 + 1) (sym e) at_next in
                let bound : get_or ends n 0 < get_or starts (n + 1) 0 = subst (λ m. get_or ends m 0 < get_or starts (m + 1) 0) (sym e) some in
                (omega (arith, w.0, now), omega (arith, bound, now))
            | inr other ↦
                let now = others n (apart_of n d other) in
                (omega (arith, w.0, now), omega (arith, w.1, now))
          ];
    }

  -- lists that fill their rooms are rows in flat form
  pub filled_full : ((n : ℕ) → n < length ends → length (row (filled starts ends entries) n) ≡ get_or (rooms starts (length ends)) n 0) → flat_rows starts entries ≡ filled starts ends entries
  filled_full full = ext_get_or [] (flat_rows starts entries) (filled starts ends entries)
      (flat_len starts entries ∙ let e : length starts - 1 ≡ length ends = omega (arith, is.count) in e ∙ sym (filled_len starts ends entries))
      (λ n low.
      let inside : n < length ends = omega (arith, low, flat_len starts entries, is.count) in
      let w = is.within n inside in
      let l = list_len n inside in
      let r = rooms_at starts (length ends) n inside in
      let f = full n inside in
      let end : get_or starts (n + 1) 0 ≡ get_or ends n 0 = omega (arith, w.0, w.1, l, r, f) in
      flat_at starts entries n (omega (arith, inside, is.count))
      ∙ ap (slice_range entries (get_or starts n 0)) end
      ∙ sym (filled_at starts ends entries n inside))

-- ---- rooms of given sizes

sum_climbs : (sizes : List ℕ) (i j : ℕ) → i ≤ j → sum_to sizes i ≤ sum_to sizes j
sum_climbs sizes i j low = subst (λ xs. sum xs ≤ sum_to sizes j) (take-take i j sizes low) (sum_by-take-le (λ x. x) (take j sizes) i)

pub sums_at : (sizes : List ℕ) (n i : ℕ) → i < n → get_or (map (sum_to sizes) (range_with_len 0 n)) i 0 ≡ sum_to sizes i
sums_at sizes n i low = get_or-map-range_with_len (sum_to sizes) 0 n i i 0 low (omega arith)

pub sums_more : (sizes : List ℕ) (i : ℕ) → i < length sizes → sum_to sizes (i + 1) ≡ sum_to sizes i + get_or sizes i 0
sums_more sizes i low = sum_by_more (λ x. x) sizes i 0 low

module _ (sizes starts ends entries : List ℕ) (from : starts ≡ map (sum_to sizes) (range_with_len 0 (length sizes + 1))) (to : ends ≡ map (sum_to sizes) (range_with_len 0 (length sizes))) (all : length entries ≡ sum sizes) where
  starts_len : length starts ≡ length sizes + 1
  starts_len = ap length from ∙ length-map-range_with_len (sum_to sizes) 0 (length sizes + 1)

  pub ends_len : length ends ≡ length sizes
  ends_len = ap length to ∙ length-map-range_with_len (sum_to sizes) 0 (length sizes)

  start_is : (i : ℕ) → i < length sizes + 1 → get_or starts i 0 ≡ sum_to sizes i
  start_is i low = ap (λ xs. get_or xs i 0) from ∙ sums_at sizes (length sizes + 1) i low

  end_is : (i : ℕ) → i < length sizes → get_or ends i 0 ≡ sum_to sizes i
  end_is i low = ap (λ xs. get_or xs i 0) to ∙ sums_at sizes (length sizes) i low

  pub roomy_empty : IsRoomy starts ends entries
  roomy_empty = record {
    flat = record {
      some = omega (arith, starts_len);
      begins = start_is 0 (omega arith);
      climbs = λ i j low high. let a = start_is i (omega (arith, low, high, starts_len)) in let b = start_is j (omega (arith, high, starts_len)) in let c = sum_climbs sizes i j low in omega (arith, a, b, c);
      ends =
          let last : length starts - 1 ≡ length sizes = omega (arith, starts_len) in
          ap (λ i. get_or starts i 0) last ∙ start_is (length sizes) (omega arith) ∙ ap sum (take_all (length sizes) sizes (omega arith)) ∙ sym all;
    };
    count = starts_len ∙ ap (λ n. n + 1) (sym ends_len);
    within = λ n low.
        let inside : n < length sizes = omega (arith, low, ends_len) in
        let a = start_is n (omega (arith, inside)) in let b = end_is n inside in let c = start_is (n + 1) (omega (arith, inside)) in let d = sum_climbs sizes n (n + 1) (omega arith) in
        (omega (arith, a, b), omega (arith, b, c, d));
  }

  pub empty_lists : (n : ℕ) → n < length sizes → row (filled starts ends entries) n ≡ []
  empty_lists n low =
      filled_at starts ends entries n (omega (arith, low, ends_len))
      ∙ ap (λ e. take (e - get_or starts n 0) (drop (get_or starts n 0) entries)) (end_is n low)
      ∙ ap (λ s. take (sum_to sizes n - s) (drop (get_or starts n 0) entries)) (start_is n (omega (arith, low)))
      ∙ ap (λ k. take k (drop (get_or starts n 0) entries)) none
    where
      none : sum_to sizes n - sum_to sizes n ≡ 0
      none = omega arith

  pub empty_rooms : rooms starts (length ends) ≡ sizes
  empty_rooms = sym (fill_by_all (λ n. get_or starts (n + 1) 0 - get_or starts n 0) sizes (length ends) 0 (sym ends_len)
      (λ k low.
      let inside : k < length sizes = omega (arith, low, ends_len) in
      let a = start_is k (omega (arith, inside)) in let b = start_is (k + 1) (omega (arith, inside)) in let m = sums_more sizes k inside in
      omega (arith, a, b, m)))

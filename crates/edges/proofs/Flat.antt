-- Rows in flat form: what they are, one row more, and how many entries there are.
use Rattle.std.proofs.Common.{◌≡◌, ℕ, zero, suc, ◌+◌, ◌-◌, ◌<◌, ◌≤◌, List, [], ◌∷◌, ◌++◌, length, map, get_or, take, drop, sym, ap, ◌∙◌, subst, arith, add-one}
use Rattle.std.specs.List.{range_with_len, slice_range, sum_by}
use Rattle.std.proofs.lemmas.List.{length-take, length-drop, take_all, take-append-le, drop-append-le, drop_at, get_or_append_left, get_or_push, length_push}
use Rattle.std.proofs.lemmas.List.FromFn.{length-map-range_with_len, get_or-map-range_with_len, map-range_with_len_more, sum_by-map-range_with_len_more, fill_by_all}
use Rattle.edges.specs.Rows.{row}
use Rattle.edges.specs.Flat.{flat_row, flat_rows, IsFlat}

pub flat_len : (starts entries : List ℕ) → length (flat_rows starts entries) ≡ length starts - 1
flat_len starts entries = length-map-range_with_len (flat_row starts entries) 0 (length starts - 1)

pub flat_at : (starts entries : List ℕ) (n : ℕ) → n < length starts - 1 → row (flat_rows starts entries) n ≡ flat_row starts entries n
flat_at starts entries n low = get_or-map-range_with_len (flat_row starts entries) 0 (length starts - 1) n n [] low (omega arith)

-- the start and the end of a row
pub flat_bounds : (starts entries : List ℕ) (n : ℕ) → IsFlat starts entries → n < length starts - 1
    → (get_or starts n 0 ≤ get_or starts (n + 1) 0) × (get_or starts (n + 1) 0 ≤ length entries)
flat_bounds starts entries n flat low =
    let next : n + 1 < length starts = omega (arith, low) in
    let here = flat.climbs n (n + 1) (omega arith) next in
    let end = flat.climbs (n + 1) (length starts - 1) (omega (arith, next)) (omega (arith, flat.some)) in
    (here, omega (arith, end, flat.ends))

pub length-part : (entries : List ℕ) (a b : ℕ) → b ≤ length entries → length (slice_range entries a b) ≡ b - a
length-part entries a b inside = let t = length-take (b - a) (drop a entries) in let d = length-drop a entries in omega (arith, t, d)

-- how many entries the rows so far have
entries_within : (starts entries : List ℕ) (n : ℕ) → IsFlat starts entries → n < length starts → sum_by length (map (flat_row starts entries) (range_with_len 0 n)) ≡ get_or starts n 0
entries_within starts entries zero flat low = sym flat.begins
entries_within starts entries (suc n) flat low =
    let last = flat_bounds starts entries n flat (omega (arith, low)) in
    let here = length-part entries (get_or starts n 0) (get_or starts (n + 1) 0) last.1 in
    let more = sum_by-map-range_with_len_more length (flat_row starts entries) 0 n n (omega arith) in
    let rest = entries_within starts entries n flat (omega (arith, low)) in
    subst (λ k. sum_by length (map (flat_row starts entries) (range_with_len 0 k)) ≡ get_or starts k 0) (add-one n) (omega (arith, more, here, rest, last.0))

pub flat_entries : (starts entries : List ℕ) → IsFlat starts entries → sum_by length (flat_rows starts entries) ≡ length entries
flat_entries starts entries flat = entries_within starts entries (length starts - 1) flat (omega (arith, flat.some)) ∙ flat.ends

-- one row more, behind the others
part_left : (entries more : List ℕ) (a b : ℕ) → a ≤ b → b ≤ length entries → slice_range (entries ++ more) a b ≡ slice_range entries a b
part_left entries more a b low high =
    ap (take (b - a)) (drop-append-le a entries more (omega (arith, low, high)))
    ∙ take-append-le (b - a) (drop a entries) more (let d = length-drop a entries in omega (arith, d, low, high))

part_right : (entries more : List ℕ) (a b : ℕ) → a ≡ length entries → b ≡ length entries + length more → slice_range (entries ++ more) a b ≡ more
part_right entries more a b from to =
    ap (take (b - a)) (drop_at entries more a (sym from)) ∙ take_all (b - a) more (omega (arith, from, to))

module _ (starts entries list : List ℕ) (end : ℕ) (flat : IsFlat starts entries) (is : end ≡ length entries + length list) where
  start_old : (n : ℕ) → n < length starts → get_or (starts ++ end ∷ []) n 0 ≡ get_or starts n 0
  start_old n low = get_or_append_left starts (end ∷ []) 0 n low

  start_last : (n : ℕ) → n ≡ length starts → get_or (starts ++ end ∷ []) n 0 ≡ end
  start_last n e = get_or_push starts end 0 n (sym e)

  row_old : (n : ℕ) → n < length starts - 1 → flat_row (starts ++ end ∷ []) (entries ++ list) n ≡ flat_row starts entries n
  row_old n low =
      let b = flat_bounds starts entries n flat low in
      ap (λ s. slice_range (entries ++ list) s (get_or (starts ++ end ∷ []) (n + 1) 0)) (start_old n (omega (arith, low)))
      ∙ ap (λ s. slice_range (entries ++ list) (get_or starts n 0) s) (start_old (n + 1) (omega (arith, low)))
      ∙ part_left entries list (get_or starts n 0) (get_or starts (n + 1) 0) b.0 b.1

  older : map (flat_row (starts ++ end ∷ []) (entries ++ list)) (range_with_len 0 (length starts - 1)) ≡ flat_rows starts entries
  older = fill_by_all (flat_row starts entries) (map (flat_row (starts ++ end ∷ []) (entries ++ list)) (range_with_len 0 (length starts - 1))) (length starts - 1) []
      (length-map-range_with_len (flat_row (starts ++ end ∷ []) (entries ++ list)) 0 (length starts - 1))
      (λ k low. get_or-map-range_with_len (flat_row (starts ++ end ∷ []) (entries ++ list)) 0 (length starts - 1) k k [] low (omega arith) ∙ row_old k low)

  newest : flat_row (starts ++ end ∷ []) (entries ++ list) (length starts - 1) ≡ list
  newest =
      ap (λ s. slice_range (entries ++ list) s (get_or (starts ++ end ∷ []) (length starts - 1 + 1) 0)) (start_old (length starts - 1) (omega (arith, flat.some)))
      ∙ ap (λ s. slice_range (entries ++ list) (get_or starts (length starts - 1) 0) s) (start_last (length starts - 1 + 1) (omega (arith, flat.some)))
      ∙ part_right entries list (get_or starts (length starts - 1) 0) end flat.ends is

  pub flat_push : flat_rows (starts ++ end ∷ []) (entries ++ list) ≡ flat_rows starts entries ++ list ∷ []
  flat_push =
      let count : length (starts ++ end ∷ []) - 1 ≡ (length starts - 1) + 1 = let l = length_push starts end in omega (arith, l, flat.some) in
      ap (λ k. map (flat_row (starts ++ end ∷ []) (entries ++ list)) (range_with_len 0 k)) count
      ∙ map-range_with_len_more (flat_row (starts ++ end ∷ []) (entries ++ list)) 0 (length starts - 1) (length starts - 1) (omega arith)
      ∙ ap (λ rows. rows ++ flat_row (starts ++ end ∷ []) (entries ++ list) (length starts - 1) ∷ []) older
      ∙ ap (λ r. flat_rows starts entries ++ r ∷ []) newest

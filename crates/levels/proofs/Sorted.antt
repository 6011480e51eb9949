-- Pairs of a key and a place, sorted.
use Rattle.std.proofs.Common.{◌≡◌, ℕ, ◌+◌, ◌<◌, ◌≤◌, inl, inr, true, false, cond, List, [], ◌∷◌, ◌++◌, length, map, get_or, sym, ap, ◌∙◌, subst, arith, refl, true≢false, lt-ltb}
use Rattle.std.specs.Prelude.{slice_index, ◌==◌, Contains, All}
use Rattle.std.specs.Ordering.{nat_cmp, is_lt, ordering_then}
use Rattle.std.specs.declared.cmp.Ordering.{Ordering}
use Rattle.std.specs.declared.cmp.Ordering.TheVariants.{Less, Equal, Greater}
use Rattle.std.specs.List.Sorted.{IsPermutation, IsSorted, IsNonDecreasingBy}
use Rattle.std.proofs.lemmas.List.{length-map, get_or-map, get_or_append_left, get_or_push, length_push}
use Rattle.std.proofs.lemmas.List.Elements.{All-from_get_or, All-get_or, Contains-get_or}
use Rattle.std.proofs.lemmas.List.Sorted.{IsNonDecreasingBy-from_all_adjacent, All-permutation, Contains-permutation, length_permutation}
use Rattle.edges.proofs.Lists.{below_or_past}
use Rattle.levels.specs.Levels.{AreKeyed, IsOrderBy}

abbrev pub pair_cmp : ℕ × ℕ → ℕ × ℕ → Ordering
pair_cmp x y = ordering_then (nat_cmp x.0 y.0) (nat_cmp x.1 y.1)

adjacent : (a b : ℕ × ℕ) → is_lt (pair_cmp b a) ≡ false → a.0 ≤ b.0
adjacent a b h = elim (below_or_past b.0 a.0) [
  | inl less ↦
      let e : is_lt (pair_cmp b a) ≡ true = ap (λ t. is_lt (ordering_then (cond t Less (cond (b.0 == a.0) Equal Greater)) (nat_cmp b.1 a.1))) (lt-ltb b.0 a.0 less) in
      absurd (true≢false (sym e ∙ h))
  | inr not ↦ not
]

rises : (qs : List (ℕ × ℕ)) → IsSorted pair_cmp qs → IsNonDecreasingBy (λ p. p.0) qs
rises qs sorted = IsNonDecreasingBy-from_all_adjacent (λ (p : ℕ × ℕ). p.0) qs (λ k d low. adjacent (get_or qs k d) (get_or qs (k + 1) d) (sorted k d (omega arith) low))

abbrev IsKeyed : List ℕ → ℕ × ℕ → Type 0
IsKeyed keys p = (slice_index keys p.1 ≡ p.0) × (p.1 < length keys)

all_keyed : (keys : List ℕ) (ps : List (ℕ × ℕ)) → AreKeyed keys ps → All (IsKeyed keys) ps
all_keyed keys ps k = All-from_get_or (IsKeyed keys) ps (0, 0) (λ i low. let inside : i < length keys = omega (arith, low, k.size) in subst (IsKeyed keys) (sym (k.each i inside)) (refl, inside))

module _ (keys : List ℕ) (ps qs : List (ℕ × ℕ)) (k : AreKeyed keys ps) (moved : IsPermutation ps qs) (sorted : IsSorted pair_cmp qs) where
  abbrev order : List ℕ
  order = map (λ (p : ℕ × ℕ). p.1) qs

  within : (i : ℕ) → i < length order → i < length qs
  within i low = let e = length-map qs (λ (p : ℕ × ℕ). p.1) in omega (arith, e, low)

  at : (i : ℕ) → i < length order → get_or order i 0 ≡ (get_or qs i (0, 0)).1
  at i low = get_or-map (λ (p : ℕ × ℕ). p.1) qs i (0, 0) 0 (within i low)

  keyed_at : (i : ℕ) → i < length order → IsKeyed keys (get_or qs i (0, 0))
  keyed_at i low = All-get_or (IsKeyed keys) qs i (0, 0) (within i low) (All-permutation (IsKeyed keys) ps qs moved (all_keyed keys ps k))

  key_at : (i : ℕ) → i < length order → slice_index keys (get_or order i 0) ≡ (get_or qs i (0, 0)).0
  key_at i low = ap (slice_index keys) (at i low) ∙ (keyed_at i low).0

  found : (n : ℕ) → n < length keys → (i : ℕ) × (i < length order) × (get_or order i 0 ≡ n)
  found n low =
      let pair : ℕ × ℕ = (slice_index keys n, n) in
      let here : Contains ps pair = subst (Contains ps) (k.each n low) (Contains-get_or ps n (0, 0) (omega (arith, low, k.size))) in
      let there = Contains-permutation ps qs pair moved here in
      let e = length-map qs (λ (p : ℕ × ℕ). p.1) in
      (there.0, omega (arith, e, there.1), get_or-map (λ (p : ℕ × ℕ). p.1) qs there.0 pair 0 there.1 ∙ ap (λ (p : ℕ × ℕ). p.1) there.2)

  pub ordered : IsOrderBy keys order
  ordered = record {
    size = length-map qs (λ (p : ℕ × ℕ). p.1) ∙ length_permutation ps qs moved ∙ k.size;
    nodes = λ i low. subst (λ n. n < length keys) (sym (at i low)) (keyed_at i low).1;
    all = λ n low. found n low;
    ascends = λ i j le low.
        let e = key_at i (omega (arith, le, low)) in
        let f = key_at j low in
        let up = rises qs sorted i j (0, 0) le (within j low) in
        omega (arith, e, f, up);
  }

-- one pair more
pub keyed_more : (keys : List ℕ) (ps qs : List (ℕ × ℕ)) (n key : ℕ) → length ps ≡ n → ((k : ℕ) → k < n → get_or ps k (0, 0) ≡ (get_or keys k 0, k)) → qs ≡ ps ++ (key, n) ∷ [] → key ≡ get_or keys n 0
    → (length qs ≡ n + 1) × ((k : ℕ) → k < n + 1 → get_or qs k (0, 0) ≡ (get_or keys k 0, k))
keyed_more keys ps qs n key size each grown is = (
  ap length grown ∙ length_push ps (key, n) ∙ ap (λ m. m + 1) size,
  λ k low. ap (λ xs. get_or xs k (0, 0)) grown ∙ (elim (below_or_past k n) [
    | inl old ↦ get_or_append_left ps ((key, n) ∷ []) (0, 0) k (omega (arith, old, size)) ∙ each k old
    | inr new ↦
        let e : k ≡ n = omega (arith, low, new) in
        get_or_push ps (key, n) (0, 0) k (size ∙ sym e) ∙ ap (λ x. (x, n)) is ∙ ap (λ x. (get_or keys x 0, x)) (sym e)
  ]),
)

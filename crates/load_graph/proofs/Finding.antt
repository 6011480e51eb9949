-- Paths that are sorted, and what is found among them.
use Rattle.std.proofs.Common.{◌≡◌, ℕ, zero, suc, ◌+◌, ◌<◌, inl, inr, Bool, true, false, cond, List, [], ◌∷◌, ◌++◌, length, filter, get_or, ◌||◌, Some, None, sym, ap, ◌∙◌, subst, arith, refl, true≢false, eqb-true, eq-eqb}
use Rattle.std.specs.Prelude.{if◌then◌else◌, nat_eq}
use Rattle.std.specs.List.{list_any, IsDistinct, AllByRecursion}
use Rattle.std.specs.List.Sorted.{IsNonDecreasingBy, IsPartitionPoint, IsPermutation, IsSorted}
use Rattle.std.specs.Ordering.{nat_cmp, is_eq, ordering_index}
use Rattle.std.specs.declared.cmp.Ordering.{Ordering}
use Rattle.std.specs.declared.cmp.Ordering.TheVariants.{Less, Equal, Greater}
use Rattle.std.specs.Cmp.Lexicographic.{slice_cmp}
use Rattle.std.specs.Str.{bytes_eq}
use Rattle.std.proofs.lemmas.Cmp.{nat_list_cmp_total, tied_itself, nat_list_eq_equiv}
use Rattle.std.proofs.lemmas.Map.Text.{is_eq-slice_cmp}
use Rattle.std.proofs.lemmas.Map.Keys.{apart_from_distinct, IsDistinct-IsPermutation, IsDistinct-cons, IsDistinct-head, IsDistinct-tail}
use Rattle.std.proofs.lemmas.List.Sorted.{searchable_from_sorted}
use Rattle.std.proofs.lemmas.List.Elements.{Contains-get_or}
use Rattle.std.proofs.lemmas.List.{get_or_default}
use Rattle.std.proofs.lemmas.Slice.Eq.{bytes_eq-Decides}
use Rattle.edges.proofs.Tests.{cases_of, isnt, any_of, any_in, none_any, not_both, neither}
use Rattle.edges.proofs.Lists.{below_or_past, sides}
use Rattle.loading.specs.Loads.{Path, path_at}
use Rattle.workspace.specs.FileKinds.{is_module}
use Rattle.workspace.specs.Workspaces.{Pair, paths_of, IsWorkspace}
use Rattle.load_graph.specs.Paths.{ArePaths, IsAt, listed, module_paths, entry}

-- ---- the paths of modules

any_filter : (p t : Path → Bool) (qs : List Path) → list_any t qs ≡ false → list_any t (filter p qs) ≡ false
any_filter p t [] none = refl
any_filter p t (q ∷ qs) none = let apart = neither (t q) (list_any t qs) none in go (p q) apart.0 (any_filter p t qs apart.1)
  where
    go : (b : Bool) → t q ≡ false → list_any t (filter p qs) ≡ false → list_any t (cond b (q ∷ filter p qs) (filter p qs)) ≡ false
    go true e later = ap (λ x. x || list_any t (filter p qs)) e ∙ later
    go false e later = later

all_none : (t : Path → Bool) (qs : List Path) → AllByRecursion (λ q. t q ≡ false) qs → list_any t qs ≡ false
all_none t [] all = refl
all_none t (q ∷ qs) all = ap (λ x. x || list_any t qs) all.0 ∙ all_none t qs all.1

filter_distinct : (p : Path → Bool) (qs : List Path) → IsDistinct bytes_eq qs → IsDistinct bytes_eq (filter p qs)
filter_distinct p [] d = d
filter_distinct p (q ∷ qs) d = go (p q) (filter_distinct p qs (IsDistinct-tail bytes_eq q qs d)) (any_filter p (bytes_eq q) qs (all_none (bytes_eq q) qs (IsDistinct-head bytes_eq q qs d)))
  where
    go : (b : Bool) → IsDistinct bytes_eq (filter p qs) → list_any (bytes_eq q) (filter p qs) ≡ false → IsDistinct bytes_eq (cond b (q ∷ filter p qs) (filter p qs))
    go true rest none = IsDistinct-cons bytes_eq q (filter p qs) (none_any (bytes_eq q) (filter p qs) none) rest
    go false rest none = rest

pub sorted_paths : (pairs : List Pair) (sorted : List Path) → IsWorkspace pairs → IsPermutation (module_paths pairs) sorted → IsSorted (slice_cmp nat_cmp) sorted → ArePaths sorted
sorted_paths pairs sorted w moved up = record {
  sorted = up;
  distinct = IsDistinct-IsPermutation bytes_eq nat_list_eq_equiv.symm (module_paths pairs) sorted moved (filter_distinct is_module (paths_of pairs) w.distinct);
}

pub sorted_from : (pairs read : List Pair) (empty added sorted : List Path) → IsWorkspace pairs → empty ≡ [] → added ≡ empty ++ module_paths read → read ≡ pairs → IsPermutation added sorted → IsSorted (slice_cmp nat_cmp) sorted → ArePaths sorted
sorted_from pairs read empty added sorted w none grown same moved up =
    sorted_paths pairs sorted w (subst (λ xs. IsPermutation xs sorted) (grown ∙ ap (λ xs. xs ++ module_paths read) none ∙ ap module_paths same) moved) up

-- ---- what a search finds

pub found_at : (ps : List Path) (q : Path) (n : ℕ) → n < length ps → ((d : Path) → slice_cmp nat_cmp (get_or ps n d) q ≡ Equal) → IsAt ps q n
found_at ps q n low h = (low, (bytes_eq-Decides (get_or ps n []) q).0 (sym (is_eq-slice_cmp (get_or ps n []) q) ∙ ap is_eq (h [])))

pub found_in : (ps read : List Path) (q : Path) (n k : ℕ) → read ≡ ps → k ≡ n → n < length read → ((d : Path) → slice_cmp nat_cmp (get_or read n d) q ≡ Equal) → IsAt ps q k
found_in ps read q n k same is low h = subst (λ xs. IsAt xs q k) same (subst (IsAt read q) (sym is) (found_at read q n low h))

apart_from_tied : {P : Type 0} (o : Ordering) → o ≡ Equal → is_eq o ≡ false → P
apart_from_tied o e f = absurd (true≢false (sym (ap is_eq e) ∙ f))

pub not_found : (ps : List Path) (q : Path) (i : ℕ) → ArePaths ps → (IsNonDecreasingBy (λ y. ordering_index (slice_cmp nat_cmp y q)) ps → IsPartitionPoint (λ y. slice_cmp nat_cmp y q ≡ Less) (λ y. slice_cmp nat_cmp y q ≡ Greater) ps i)
    → listed ps q ≡ false
not_found ps q i are told = isnt (listed ps q) (λ h.
    let y = any_of (bytes_eq q) ps h in
    let k = y.1.0 in
    let same : get_or ps k y.0 ≡ q = y.1.2 ∙ sym ((bytes_eq-Decides q y.0).0 y.2) in
    let tied : slice_cmp nat_cmp (get_or ps k y.0) q ≡ Equal = ap (λ x. slice_cmp nat_cmp x q) same ∙ tied_itself nat_list_cmp_total q in
    let point = told (searchable_from_sorted nat_list_cmp_total (λ x. x) ps q are.sorted) in
    elim (below_or_past k i) [
      | inl low ↦ apart_from_tied (slice_cmp nat_cmp (get_or ps k y.0) q) tied (ap is_eq (point.0 k y.0 (omega arith) low))
      | inr high ↦ apart_from_tied (slice_cmp nat_cmp (get_or ps k y.0) q) tied (ap is_eq (point.1 k y.0 high y.1.1))
    ])

pub not_found_in : (ps read : List Path) (q : Path) (i : ℕ) → read ≡ ps → ArePaths ps → (IsNonDecreasingBy (λ y. ordering_index (slice_cmp nat_cmp y q)) read → IsPartitionPoint (λ y. slice_cmp nat_cmp y q ≡ Less) (λ y. slice_cmp nat_cmp y q ≡ Greater) read i)
    → listed ps q ≡ false
not_found_in ps read q i same are told =
    not_found ps q i are
    (subst (λ xs. IsNonDecreasingBy (λ y. ordering_index (slice_cmp nat_cmp y q)) xs → IsPartitionPoint (λ y. slice_cmp nat_cmp y q ≡ Less) (λ y. slice_cmp nat_cmp y q ≡ Greater) xs i) same told)

-- ---- one path, one number

pub same_number : (ps : List Path) (n m : ℕ) → IsDistinct bytes_eq ps → n < length ps → m < length ps → path_at ps n ≡ path_at ps m → n ≡ m
same_number ps n m d low low' e = elim (cases_of (nat_eq n m)) [
  | inl is ↦ nat_same n m is
  | inr not ↦ absurd (elim (sides n m (λ is. apart_of_nat n m is not)) [
    | inl l ↦ not_both (bytes_eq (path_at ps n) (path_at ps m)) ((bytes_eq-Decides (path_at ps n) (path_at ps m)).1 e) (apart_from_distinct bytes_eq ps n m [] d l low')
    | inr g ↦ not_both (bytes_eq (path_at ps m) (path_at ps n)) ((bytes_eq-Decides (path_at ps m) (path_at ps n)).1 (sym e)) (apart_from_distinct bytes_eq ps m n [] d g low)
  ])
]
  where
    nat_same : (n m : ℕ) → nat_eq n m ≡ true → n ≡ m
    nat_same n m e = eqb-true n m e

    apart_of_nat : (n m : ℕ) → n ≡ m → nat_eq n m ≡ false → ⊥
    apart_of_nat n m e f = not_both (nat_eq n m) (eq-eqb n m e) f

module _ {A : Type 0} where
  -- the entry of a module is the one at its number
  pub entry_at : (ps : List Path) (entries : List A) (n : ℕ) (d : A) → IsDistinct bytes_eq ps → n < length ps → n < length entries → entry ps entries (path_at ps n) ≡ Some (get_or entries n d)
  entry_at [] entries n d apart low low' = absurd (omega (arith, low))
  entry_at (p ∷ ps) [] n d apart low low' = absurd (omega (arith, low'))
  entry_at (p ∷ ps) (a ∷ entries) zero d apart low low' = ap (λ b. if b then Some a else entry ps entries p) ((bytes_eq-Decides p p).1 refl)
  entry_at (p ∷ ps) (a ∷ entries) (suc n) d apart low low' =
      let other : bytes_eq (path_at ps n) p ≡ false = nat_list_eq_equiv.symm (path_at ps n) p ∙ apart_from_distinct bytes_eq (p ∷ ps) 0 (suc n) [] apart (omega arith) low in
      ap (λ b. if b then Some a else entry ps entries (path_at ps n)) other ∙ entry_at ps entries n d (IsDistinct-tail bytes_eq p ps apart) (omega (arith, low)) (omega (arith, low'))

  pub no_entry : (ps : List Path) (entries : List A) (q : Path) → listed ps q ≡ false → entry ps entries q ≡ None
  no_entry [] entries q none = refl
  no_entry (p ∷ ps) [] q none = refl
  no_entry (p ∷ ps) (a ∷ entries) q none =
      let apart = neither (bytes_eq q p) (listed ps q) none in
      ap (λ b. if b then Some a else entry ps entries q) apart.0 ∙ no_entry ps entries q apart.1

-- a path that is listed has a number
pub number_of_listed : (ps : List Path) (q : Path) → listed ps q ≡ true → (n : ℕ) × IsAt ps q n
number_of_listed ps q h =
    let y = any_of (bytes_eq q) ps h in
    (y.1.0, (y.1.1, get_or_default ps y.1.0 [] y.0 y.1.1 ∙ y.1.2 ∙ sym ((bytes_eq-Decides q y.0).0 y.2)))

pub listed_at : (ps : List Path) (n : ℕ) → n < length ps → listed ps (path_at ps n) ≡ true
listed_at ps n low = any_in (bytes_eq (path_at ps n)) ps (path_at ps n) (Contains-get_or ps n [] low) ((bytes_eq-Decides (path_at ps n) (path_at ps n)).1 refl)

-- Files that are put in order, and what is found among them.
use Rattle.std.proofs.Common.{◌≡◌, ℕ, ◌+◌, ◌<◌, Bool, true, false, cond, List, [], ◌++◌, length, get_or, Option, Some, None, sym, ap, ◌∙◌, subst, arith, refl, lt-ltb}
use Rattle.std.specs.Prelude.{position, bytes_eq, nat_lt}
use Rattle.std.specs.List.{list_any, position_or_len}
use Rattle.std.specs.List.Sorted.{IsPermutation, IsSorted, IsNonDecreasingBy, IsPartitionPoint}
use Rattle.std.specs.Ordering.{nat_cmp, is_lt, ordering_then, ordering_index}
use Rattle.std.specs.declared.cmp.Ordering.{Ordering}
use Rattle.std.specs.declared.cmp.Ordering.TheVariants.{Less, Equal, Greater}
use Rattle.std.specs.Cmp.Lexicographic.{slice_cmp}
use Rattle.std.proofs.lemmas.Cmp.{nat_list_eq_equiv}
use Rattle.std.proofs.lemmas.List.{get_or-map, length-map}
use Rattle.std.proofs.lemmas.List.Folds.{list_any_at}
use Rattle.std.proofs.lemmas.List.Quantifiers.{position-Some}
use Rattle.std.proofs.lemmas.List.Sorted.{IsPermutation-map}
use Rattle.std.proofs.lemmas.List.Sums.{position_or_len_is}
use Rattle.std.proofs.lemmas.Map.Keys.{IsDistinct-IsPermutation, apart_from_distinct}
use Rattle.std.proofs.lemmas.Slice.Eq.{bytes_eq-Decides}
use Rattle.edges.proofs.Tests.{not_both}
use Rattle.loading.specs.Loads.{Path}
use Rattle.workspace.specs.Workspaces.{Pair, paths_of, IsWorkspace}
use Rattle.load_graph.specs.Paths.{IsAt, listed}
use Rattle.load_graph.proofs.Finding.{found_in, not_found_in}
use Rattle.sources.specs.Listed.{AreListed}

-- ---- in order

-- by path, and then by text
abbrev pub pair_cmp : Pair → Pair → Ordering
pair_cmp x y = ordering_then (slice_cmp nat_cmp x.0 y.0) (slice_cmp nat_cmp x.1 y.1)

first_decides : (a b : Ordering) → is_lt (ordering_then a b) ≡ false → is_lt a ≡ false
first_decides Less b h = h
first_decides Equal b h = refl
first_decides Greater b h = refl

sorted_paths : (files : List Pair) → IsSorted pair_cmp files → IsSorted (slice_cmp nat_cmp) (paths_of files)
sorted_paths files up k d low high =
    let size : length (paths_of files) ≡ length files = length-map files (λ (p : Pair). p.0) in
    let at : (i : ℕ) → i < length files → get_or (paths_of files) i d ≡ (get_or files i ([], [])).0 = λ i l. get_or-map (λ (p : Pair). p.0) files i ([], []) d l in
    let x = get_or files (k + 1) ([], []) in
    let y = get_or files k ([], []) in
    let e = at (k + 1) (omega (arith, high, size)) in
    let f = at k (omega (arith, high, size)) in
    ap (λ p. is_lt (slice_cmp nat_cmp p (get_or (paths_of files) k d))) e ∙ ap (λ p. is_lt (slice_cmp nat_cmp x.0 p)) f
    ∙ first_decides (slice_cmp nat_cmp x.0 y.0) (slice_cmp nat_cmp x.1 y.1) (up k ([], []) low (omega (arith, high, size)))

pub are_listed : (pairs read empty added sorted : List Pair) (paths : List Path) → IsWorkspace pairs → empty ≡ [] → added ≡ empty ++ read → read ≡ pairs → IsPermutation added sorted → IsSorted pair_cmp sorted → paths ≡ paths_of sorted → AreListed sorted paths
are_listed pairs read empty added sorted paths w none grown same moved up are = record {
  paths_are = are;
  ascending = record {
    sorted = sorted_paths sorted up;
    distinct = IsDistinct-IsPermutation bytes_eq nat_list_eq_equiv.symm (paths_of pairs) (paths_of sorted)
        (IsPermutation-map (λ (p : Pair). p.0) pairs sorted (subst (λ xs. IsPermutation xs sorted) (grown ∙ ap (λ xs. xs ++ read) none ∙ same) moved)) w.distinct;
  };
}

-- ---- what is found

position_is : {X : Type 0} (p : X → Bool) (xs : List X) (n : ℕ) (d : X) → n < length xs → p (get_or xs n d) ≡ true → ((k : ℕ) → k < n → p (get_or xs k d) ≡ false) → position p xs ≡ Some n
position_is p xs n d low here before =
    let e : position_or_len p xs ≡ n = position_or_len_is p xs n d (omega (arith, low)) before (λ _. here) in
    ap (λ m. cond (nat_lt m (length xs)) (Some m) None) e ∙ ap (λ b. cond b (Some n) None) (lt-ltb n (length xs) low)

no_position : {X : Type 0} (p : X → Bool) (xs : List X) (d : X) → list_any p xs ≡ false → position p xs ≡ None
no_position p xs d none = go (position p xs) refl
  where
    go : (o : Option ℕ) → position p xs ≡ o → position p xs ≡ None
    go None e = e
    go (Some i) e =
        let at = position-Some p xs i d e in
        not_both (list_any p xs) (list_any_at p xs i d at.0 at.1) none

pub number_found : (files : List Pair) (paths : List Path) (q : Path) (n : ℕ) → AreListed files paths → n < length paths → ((d : Path) → slice_cmp nat_cmp (get_or paths n d) q ≡ Equal) → position (bytes_eq q) (paths_of files) ≡ Some n
number_found files paths q n are low h =
    let ps = paths_of files in
    let at : IsAt ps q n = found_in ps paths q n n are.paths_are refl low h in
    let here : bytes_eq q (get_or ps n []) ≡ true = (bytes_eq-Decides q (get_or ps n [])).1 (sym at.1) in
    position_is (bytes_eq q) ps n [] at.0 here (λ k less.
    let l = at.0 in
    nat_list_eq_equiv.symm q (get_or ps k [])
    ∙ ap (bytes_eq (get_or ps k [])) (sym at.1)
    ∙ apart_from_distinct bytes_eq ps k n [] are.ascending.distinct less l)

pub number_in : (files self : List Pair) (paths read : List Path) (q : Path) (n : ℕ) → files ≡ self → read ≡ paths → AreListed files paths → n < length read → ((d : Path) → slice_cmp nat_cmp (get_or read n d) q ≡ Equal) → Some n ≡ position (bytes_eq q) (paths_of self)
number_in files self paths read q n is same are low h =
    sym (number_found files read q n (record { paths_are = same ∙ are.paths_are; ascending = are.ascending }) low h) ∙ ap (λ fs. position (bytes_eq q) (paths_of fs)) is

pub not_listed_in : (files self : List Pair) (paths read : List Path) (q : Path) (i : ℕ) → files ≡ self → read ≡ paths → AreListed files paths
    → (IsNonDecreasingBy (λ y. ordering_index (slice_cmp nat_cmp y q)) read → IsPartitionPoint (λ y. slice_cmp nat_cmp y q ≡ Less) (λ y. slice_cmp nat_cmp y q ≡ Greater) read i)
    → listed (paths_of self) q ≡ false
not_listed_in files self paths read q i is same are told =
    subst (λ fs. listed (paths_of fs) q ≡ false) is (not_found_in (paths_of files) read q i (same ∙ are.paths_are) are.ascending told)

pub no_number_in : (files self : List Pair) (paths read : List Path) (q : Path) (i : ℕ) → files ≡ self → read ≡ paths → AreListed files paths
    → (IsNonDecreasingBy (λ y. ordering_index (slice_cmp nat_cmp y q)) read → IsPartitionPoint (λ y. slice_cmp nat_cmp y q ≡ Less) (λ y. slice_cmp nat_cmp y q ≡ Greater) read i)
    → None ≡ position (bytes_eq q) (paths_of self)
no_number_in files self paths read q i is same are told = sym (no_position (bytes_eq q) (paths_of self) [] (not_listed_in files self paths read q i is same are told))

-- Files with their sizes, the greatest first.
use Rattle.std.proofs.Common.{◌≡◌, ◌∙◌, ◌<◌, ◌≤◌, ◌+◌, ◌-◌, ◌++◌, ℕ, false, List, [], ◌∷◌, length, ap, subst, sym, inl, inr, arith, cond, get_or, lt-ltb, take, true, true≢false}
use Rattle.std.specs.Prelude.{All, IsUtf8, ◌==◌, None, Option, Some, reverse}
use Rattle.std.specs.Cmp.Lexicographic.{slice_cmp}
use Rattle.std.specs.Ordering.{is_lt, nat_cmp, ordering_then}
use Rattle.std.specs.declared.cmp.Ordering.{Ordering}
use Rattle.std.specs.declared.cmp.Ordering.TheVariants.{Less, Equal, Greater}
use Rattle.std.specs.List.Sorted.{IsNonDecreasingBy, IsPermutation, IsSorted}
use Rattle.std.proofs.lemmas.List.{get_or-reverse, get_or-take, length-reverse, length-take}
use Rattle.std.proofs.lemmas.List.Elements.{All-push, All-same, All-take}
use Rattle.std.proofs.lemmas.List.Sorted.{All-permutation, IsNonDecreasingBy-from_all_adjacent}
use Rattle.std.proofs.lemmas.Bool.{cases_lt}
use Rattle.workspace.specs.Paths.{is_path}
use Rattle.workspace.specs.Workspaces.{text_limit}
use Rattle.packing.specs.Folders.{At, HasBytes, IsFound, Node, file, folder, link, shut_file, shut_folder, special, unread}
use Rattle.packing.specs.Packs.{is_used}
use Rattle.packing.specs.Refusals.{AreSizes, HasSize, IsSize}
use Rattle.packing.specs.declared.whole.FileSize.{FileSize}

-- by the bytes, and then by the path
abbrev size_cmp : FileSize → FileSize → Ordering
size_cmp a b = ordering_then (nat_cmp a.bytes b.bytes) (slice_cmp nat_cmp a.path b.path)

adjacent : (a b : FileSize) → is_lt (size_cmp b a) ≡ false → a.bytes ≤ b.bytes
adjacent a b h = elim (cases_lt b.bytes a.bytes) [
  | inl less ↦
      let e : is_lt (size_cmp b a) ≡ true = ap (λ t. is_lt (ordering_then (cond t Less (cond (b.bytes == a.bytes) Equal Greater)) (slice_cmp nat_cmp b.path a.path))) (lt-ltb b.bytes a.bytes less) in
      absurd (true≢false (sym e ∙ h))
  | inr not ↦ not
]

rises : (xs : List FileSize) → IsSorted size_cmp xs → IsNonDecreasingBy (λ s. s.bytes) xs
rises xs sorted =
    IsNonDecreasingBy-from_all_adjacent (λ (s : FileSize). s.bytes) xs (λ k d low. adjacent (get_or xs k d) (get_or xs (k + 1) d) (sorted k d (omega arith) low))

-- ---- one file more

sized : (n : Option Node) (bytes : List ℕ) → IsUtf8 bytes → HasBytes n bytes → HasSize n (length bytes)
sized None bytes utf8 told = told
sized (Some (folder names others)) bytes utf8 told = told
sized (Some (file there)) bytes utf8 told = (ap length told, subst IsUtf8 told utf8)
sized (Some link) bytes utf8 told = told
sized (Some special) bytes utf8 told = told
sized (Some (shut_folder w)) bytes utf8 told = told
sized (Some (shut_file w)) bytes utf8 told = told
sized (Some (unread u)) bytes utf8 told = told

pub sized-more : (at : At) (sizes more : List FileSize) (s : FileSize) (path bytes : List ℕ) → more ≡ sizes ++ s ∷ [] → IsFound at path
    → is_path path ≡ true → is_used path ≡ true → IsUtf8 bytes → HasBytes (at path) bytes → s.bytes ≡ length bytes → length bytes ≤ text_limit → path ≡ s.path
    → All (IsSize at) sizes → All (IsSize at) more
sized-more at sizes more s path bytes is found legal used utf8 told count within same each =
    let size : IsSize at s = record {
      found = subst (IsFound at) same found;
      legal = subst (λ p. is_path p ≡ true) same legal;
      used = subst (λ p. is_used p ≡ true) same used;
      bytes = subst (λ p. HasSize (at p) s.bytes) same (subst (HasSize (at path)) (sym count) (sized (at path) bytes utf8 told));
      within = omega (arith, count, within);
    } in
    All-same (IsSize at) more (sizes ++ s ∷ []) is (All-push (IsSize at) sizes s each size)

-- ---- the greatest first

-- of a list whose numbers rise, the first of the reversed list fall
falls : (xs cut : List FileSize) → cut ≡ take 5 (reverse xs) → IsNonDecreasingBy (λ s. s.bytes) xs
    → (i j : ℕ) (d : FileSize) → i ≤ j → j < length cut → (get_or cut j d).bytes ≤ (get_or cut i d).bytes
falls xs cut is rising i j d before within =
    let e = ap length is in
    let n = length-take 5 (reverse xs) in
    let m = length-reverse xs in
    let at : (k : ℕ) → k ≤ j → get_or cut k d ≡ get_or xs (length xs - 1 - k) d = λ k low.
    ap (λ (ys : List FileSize). get_or ys k d) is ∙ get_or-take 5 (reverse xs) k d (omega (arith, e, n, m)) ∙ get_or-reverse xs k d (omega (arith, e, n, m)) in
    rw (at i before, at j (omega arith)) (rising (length xs - 1 - j) (length xs - 1 - i) d (omega arith) (omega (arith, e, n, m)))

pub greatest-sizes : (at : At) (read sorted reversed cut : List FileSize) → All (IsSize at) read → IsPermutation read sorted → IsSorted size_cmp sorted
    → reversed ≡ reverse sorted → IsPermutation sorted reversed → cut ≡ take 5 reversed → AreSizes at cut
greatest-sizes at read sorted reversed cut each permuted rising back moved few = record {
  few = omega (arith, ap length few, length-take 5 reversed);
  each = All-same (IsSize at) cut (take 5 reversed) few
      (All-take (IsSize at) 5 reversed (All-permutation (IsSize at) sorted reversed moved (All-permutation (IsSize at) read sorted permuted each)));
  falling = falls sorted cut (few ∙ ap (take 5) back) (rises sorted rising);
}

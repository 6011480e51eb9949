-- Cuts of texts at slashes and colons, and the labels that they make.
use Rattle.std.proofs.Common.{◌≡◌, ◌≢◌, ◌∙◌, ◌<◌, ◌≤◌, ◌+◌, ◌-◌, ◌++◌, ◌==◌, ◌&&◌, not, ℕ, Bool, true, false, List, [], ◌∷◌, Option, None, Some, length, take, drop, arith, lit<, ap, sym, refl, suc, length-append, length-drop, codes, nat_eq, nat_lt, get_or}
use Rattle.std.proofs.lemmas.Bool.{and_parts, ne_eqb, eq-eqb, or_from, not_from_false, not_from_true}
use Rattle.std.proofs.lemmas.Bool.Decides.{nat_tests}
use Rattle.std.proofs.lemmas.List.{get_or-drop}
use Rattle.std.proofs.lemmas.List.Folds.{list_all-append}
use Rattle.std.proofs.lemmas.List.Splits.{length-slice_split}
use Rattle.std.proofs.lemmas.List.Sums.{suffix_len_is}
use Rattle.std.proofs.lemmas.Str.Pattern.{NoCharPasses-char}
use Rattle.std.specs.Borrow.{Bor}
use Rattle.std.specs.Prelude.{MatchOption, option_map, nat_le, if◌then◌else◌}
use Rattle.std.specs.List.{list_any, slice_split, onto_first, starts_with, suffix_len}
use Rattle.std.specs.Str.Pattern.{RFindsChar}
use Rattle.workspace.specs.Paths.{are_segments, is_path, is_segment, is_slash, last_segment}
use Rattle.workspace.specs.FileKinds.{package_of}
use Rattle.workspace.specs.Labels.{is_colon, is_label, label_parts, relative_name, whole_parts}

-- a text that no colon begins is a name as it stands
pub relative_name-bare : (text : List ℕ) → ((rest : List ℕ) → text ≢ 58 ∷ rest) → text ≡ relative_name text
relative_name-bare [] other = refl
relative_name-bare (b ∷ rest) other = rw (ne_eqb b 58 (λ e. other rest (ap (λ (x : ℕ). x ∷ rest) e))) refl

no_colon : (text : List ℕ) → ((i : ℕ) → i < length text → get_or text i 0 ≢ 58) → list_any is_colon text ≡ false
no_colon [] none = refl
no_colon (b ∷ rest) none =
    or_from _ _ (ne_eqb b 58 (none 0 (omega arith))) (no_colon rest (λ i lt. none (suc i) (omega arith)))

-- without a colon what follows `//` is a package
pub whole_parts-package : (rest : List ℕ) → ((i : ℕ) → i < length rest → get_or rest i 0 ≢ 58)
    → whole_parts rest ≡ record { «package» = rest; name = last_segment rest }
whole_parts-package rest none = rw (no_colon rest none) refl

is_other : (b : ℕ) → b ≢ 47 → not (is_slash b) ≡ true
is_other b other = not_from_false (is_slash b) (ne_eqb b 47 other)

-- how many bytes stand before the last segment
abbrev pub segment_start : List ℕ → ℕ
segment_start text = length text - suffix_len (λ b. not (is_slash b)) text

-- in a text without slashes, none
pub segment_start-one : (text : List ℕ) → ((i : ℕ) → i < length text → get_or text i 0 ≢ 47) → segment_start text ≡ 0
segment_start-one text none =
    let tail = suffix_len_is (λ b. not (is_slash b)) text 0 0 (omega arith) (λ k _ lt. is_other (get_or text k 0) (none k lt)) (λ (lt : 0 < 0). absurd (omega (arith, lt))) in
    omega (arith, tail)

-- what `rsplit_once` says of the last slash
abbrev pub Cut : List ℕ → Bor (List ℕ) × Bor (List ℕ) → Type 0
Cut text x =
    (i : ℕ) × (j : ℕ) × RFindsChar 47 text (Some (i, j)) × (x.0.now ≡ take i text) × (x.1.now ≡ drop j text) × (i ≤ j) × (length x.0.now ≡ i) × (length x.1.now + j ≡ length text)

-- the last segment begins behind the last slash
pub segment_start-cut : (text : List ℕ) (x : Bor (List ℕ) × Bor (List ℕ)) (h : Cut text x) → (segment_start text ≡ h.1) × (h.1 ≡ h.0 + 1)
segment_start-cut text x h =
    let i = h.0 in
    let j = h.1 in
    let at = h.2.1 in
    let next : j ≡ i + 1 = at.ends in
    let here : get_or text i 0 ≡ 47 = at.byte (lit< tt) in
    let within : j ≤ length text = omega (arith, h.7) in
    let clear : (k : ℕ) → j ≤ k → k < length text → get_or text k 0 ≢ 47 = λ k ge lt e.
    let place : j + (k - j) ≡ k = omega arith in
    NoCharPasses-char 47 (drop j text) (k - j) h.2.0 (lit< tt) (omega (arith, length-drop j text))
    (get_or-drop j text (k - j) 0 ∙ ap (λ (m : ℕ). get_or text m 0) place ∙ e) in
    let before : j - 1 ≡ i = omega (arith, next) in
    let tail = suffix_len_is (λ b. not (is_slash b)) text j 0 within (λ k ge lt. is_other (get_or text k 0) (clear k ge lt))
    (λ _. not_from_true (is_slash (get_or text (j - 1) 0)) (eq-eqb _ 47 (ap (λ (m : ℕ). get_or text m 0) before ∙ here))) in
    (omega (arith, tail, within), next)

-- a text without slashes is one segment
pub last_segment-one : (text : List ℕ) → ((i : ℕ) → i < length text → get_or text i 0 ≢ 47) → text ≡ last_segment text
last_segment-one text none = ap (λ (m : ℕ). drop m text) (sym (segment_start-one text none))

-- what follows the last slash
pub last_segment-cut : (text : List ℕ) (r : Option (Bor (List ℕ) × Bor (List ℕ)))
    → MatchOption r (RFindsChar 47 text None) (Cut text)
    → MatchOption r (text ≡ last_segment text) (λ x. x.1.now ≡ last_segment text)
last_segment-cut text None none = last_segment-one text (λ i lt. NoCharPasses-char 47 text i none (lit< tt) lt)
last_segment-cut text (Some x) h = h.4 ∙ ap (λ (m : ℕ). drop m text) (sym (segment_start-cut text x h).0)

-- what stands before it
pub package_of-cut : (text : List ℕ) (r : Option (Bor (List ℕ) × Bor (List ℕ)))
    → MatchOption r (RFindsChar 47 text None) (Cut text)
    → MatchOption r ([] ≡ package_of text) (λ x. x.0.now ≡ package_of text)
package_of-cut text None none =
    let start = segment_start-one text (λ i lt. NoCharPasses-char 47 text i none (lit< tt) lt) in
    rw start refl
package_of-cut text (Some x) h =
    let start = segment_start-cut text x h in
    let place : segment_start text - 1 ≡ h.0 = omega (arith, start.0, start.1) in
    h.3 ∙ ap (λ (m : ℕ). take m text) (sym place)

-- a text that begins with `//`
pub label_parts-whole : (text rest : List ℕ) (package_given : Option (List ℕ)) → text ≡ codes "//" ++ rest
    → Some (whole_parts rest) ≡ label_parts text package_given
label_parts-whole text rest package_given e =
    let begins : starts_with nat_eq text (codes "//") ≡ true = ap (λ (t : List ℕ). starts_with nat_eq t (codes "//")) e in
    rw begins (ap (λ (t : List ℕ). Some (whole_parts (drop 2 t))) (sym e))

-- any other text
pub label_parts-relative : (text : List ℕ) (package_given : Option (List ℕ)) → starts_with nat_eq text (codes "//") ≡ false
    → option_map (λ p. record { «package» = p; name = relative_name text }) package_given ≡ label_parts text package_given
label_parts-relative text package_given other = rw other refl

-- a slash cuts a text in two
slice_split-slash : (front back : List ℕ) → slice_split is_slash (front ++ 47 ∷ back) ≡ slice_split is_slash front ++ slice_split is_slash back
slice_split-slash [] back = refl
slice_split-slash (b ∷ bs) back =
    rw (slice_split-slash bs back) (go (is_slash b) (slice_split is_slash bs) (omega (arith, length-slice_split is_slash bs)))
  where
    go : (t : Bool) (parts : List (List ℕ)) → 0 < length parts
        → (if t then [] ∷ (parts ++ slice_split is_slash back) else onto_first b (parts ++ slice_split is_slash back))
        ≡ (if t then [] ∷ parts else onto_first b parts) ++ slice_split is_slash back
    go true parts some = refl
    go false [] some = absurd (omega (arith, some))
    go false (part ∷ parts) some = refl

are_segments-slash : (front back : List ℕ) → are_segments (front ++ 47 ∷ back) ≡ (are_segments front && are_segments back)
unfolding are_segments
are_segments-slash front back = rw (slice_split-slash front back) (list_all-append is_segment (slice_split is_slash front) (slice_split is_slash back))

-- a package and a name that are paths form a path where it isn't too long
pub is_label-long : (folder name : List ℕ) → (length folder == 0) ≡ false → is_path folder ≡ true → is_path name ≡ true
    → nat_lt (length folder + length name) 200 ≡ is_label (record { «package» = folder; name = name })
is_label-long folder name some legal_folder legal_name =
    let fs = and_parts (nat_le (length folder) 200) (are_segments folder) legal_folder in
    let ns = and_parts (nat_le (length name) 200) (are_segments name) legal_name in
    rw (some, fs.0, fs.1, ns.0, ns.1, are_segments-slash folder name, fs.1, ns.1, length-append) (grind (arith, nat_tests))

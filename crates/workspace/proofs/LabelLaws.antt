-- A label's text reads back as that label.
use Rattle.std.proofs.Common.{◌≡◌, ◌∙◌, ◌+◌, ◌++◌, ◌==◌, ◌&&◌, ◌||◌, ℕ, Bool, true, false, cond, List, [], ◌∷◌, Option, Some, length, take, drop, ap, sym, refl, arith, inl, inr, ◌⊎◌}
use Rattle.std.proofs.lemmas.Bool.{and_from, and_parts, eqb-true, false≢true, ne_eqb, or_cases, or_from, or_parts, or_right}
use Rattle.std.proofs.lemmas.List.{drop-drop}
use Rattle.std.proofs.lemmas.List.Folds.{list_any-append}
use Rattle.std.specs.Prelude.{nat_le, option_and_then}
use Rattle.std.specs.List.{after_first, before_first, list_all, list_any, onto_first, position_or_len, slice_split}
use Rattle.workspace.specs.Paths.{are_segments, is_path, is_segment, is_segment_byte, is_slash}
use Rattle.workspace.specs.Labels.{LabelParts, is_colon, is_label, label_of, label_path, label_text, legal_label, whole_parts}
use Rattle.workspace.proofs.LabelLemmas.{label_parts-whole}

abbrev are_bytes : List (List ℕ) → Bool
are_bytes parts = list_all (list_all is_segment_byte) parts

segments-are_bytes : (parts : List (List ℕ)) → list_all is_segment parts ≡ true → are_bytes parts ≡ true
segments-are_bytes [] h = refl
segments-are_bytes (part ∷ parts) h =
    let halves = and_parts (is_segment part) (list_all is_segment parts) h in
    let bytes = and_parts _ (list_all is_segment_byte part) halves.0 in
    and_from (list_all is_segment_byte part) (are_bytes parts) bytes.1 (segments-are_bytes parts halves.1)

-- a byte of a segment is no colon
byte-no_colon : (b : ℕ) → is_segment_byte b ≡ true → is_colon b ≡ false
byte-no_colon b legal = ne_eqb b 58 (λ e. false≢true (sym (ap is_segment_byte e) ∙ legal))

first-no_colon : (b : ℕ) (parts : List (List ℕ)) (slash : Bool) → is_slash b ≡ slash
    → are_bytes (cond slash ([] ∷ parts) (onto_first b parts)) ≡ true → (is_colon b ≡ false) × (are_bytes parts ≡ true)
first-no_colon b parts true e h =
    (ne_eqb b 58 (λ f. false≢true (sym (ap is_slash f) ∙ e)), (and_parts true (are_bytes parts) h).1)
first-no_colon b [] false e h =
    let part = (and_parts (is_segment_byte b && true) true h).0 in
    (byte-no_colon b (and_parts (is_segment_byte b) true part).0, refl)
first-no_colon b (part ∷ parts) false e h =
    let halves = and_parts (is_segment_byte b && list_all is_segment_byte part) (are_bytes parts) h in
    let bytes = and_parts (is_segment_byte b) (list_all is_segment_byte part) halves.0 in
    (byte-no_colon b bytes.0, and_from (list_all is_segment_byte part) (are_bytes parts) bytes.1 halves.1)

bytes-no_colon : (text : List ℕ) → are_bytes (slice_split is_slash text) ≡ true → list_any is_colon text ≡ false
bytes-no_colon [] h = refl
bytes-no_colon (b ∷ bs) h =
    let first = first-no_colon b (slice_split is_slash bs) (is_slash b) refl h in
    or_from (is_colon b) (list_any is_colon bs) first.0 (bytes-no_colon bs first.1)

path-no_colon : (path : List ℕ) → is_path path ≡ true → list_any is_colon path ≡ false
unfolding are_segments
path-no_colon path legal =
    let segments = (and_parts (nat_le (length path) 200) (are_segments path) legal).1 in
    bytes-no_colon path (segments-are_bytes (slice_split is_slash path) segments)

-- a package has no colon, since it is empty or a path
package-no_colon : (folder : List ℕ) → (length folder == 0) ≡ true ⊎ is_path folder ≡ true → list_any is_colon folder ≡ false
package-no_colon [] h = refl
package-no_colon (b ∷ bs) (inl e) = let empty = eqb-true (length (b ∷ bs)) 0 e in absurd (omega (arith, empty))
package-no_colon (b ∷ bs) (inr legal) = path-no_colon (b ∷ bs) legal

pub front : (xs ys : List ℕ) → take (length xs) (xs ++ ys) ≡ xs
front [] ys = refl
front (x ∷ xs) ys = ap (λ (zs : List ℕ). x ∷ zs) (front xs ys)

pub back : (xs ys : List ℕ) → drop (length xs) (xs ++ ys) ≡ ys
back [] ys = refl
back (x ∷ xs) ys = back xs ys

-- the first colon stands behind the package
position-colon : (folder name : List ℕ) → list_any is_colon folder ≡ false → position_or_len is_colon (folder ++ 58 ∷ name) ≡ length folder
position-colon [] name none = refl
position-colon (b ∷ bs) name none =
    let parts = or_parts (is_colon b) (list_any is_colon bs) none in
    let rest = position-colon bs name parts.1 in
    rw parts.0 (omega (arith, rest))

whole_parts-text : (folder name : List ℕ) → list_any is_colon folder ≡ false
    → whole_parts (folder ++ 58 ∷ name) ≡ record { «package» = folder; name = name }
whole_parts-text folder name none =
    let text = folder ++ 58 ∷ name in
    let some : list_any is_colon text ≡ true =
    list_any-append is_colon folder (58 ∷ name) ∙ or_right (list_any is_colon folder) true refl in
    let place = position-colon folder name none in
    let before : before_first is_colon text ≡ folder = ap (λ (n : ℕ). take n text) place ∙ front folder (58 ∷ name) in
    let after : after_first is_colon text ≡ name =
    ap (λ (n : ℕ). drop (n + 1) text) place ∙ sym (drop-drop 1 (length folder) text) ∙ ap (drop 1) (back folder (58 ∷ name)) in
    rw some (λ i. record { «package» = before i; name = after i })

pub label_text-reads : (l : LabelParts) (given : Option (List ℕ)) → is_label l ≡ true → label_of (label_text l) given ≡ Some l
label_text-reads l given legal =
    let parts = and_parts ((length l.«package» == 0 || is_path l.«package») && is_path l.name) (is_path (label_path l)) legal in
    let folder = (and_parts (length l.«package» == 0 || is_path l.«package») (is_path l.name) parts.0).0 in
    let none = package-no_colon l.«package» (or_cases (length l.«package» == 0) (is_path l.«package») folder) in
    let rest = l.«package» ++ 58 ∷ l.name in
    ap (option_and_then legal_label) (sym (label_parts-whole (label_text l) rest given refl))
    ∙ ap legal_label (whole_parts-text l.«package» l.name none)
    ∙ rw legal refl

-- Labels that are kept as their texts.
use Rattle.std.proofs.Common.{◌≡◌, ◌∙◌, ◌<◌, ◌+◌, ℕ, true, List, ◌∷◌, length, length-drop, drop, get_or, ap, sym, arith, lit<}
use Rattle.std.proofs.lemmas.List.{drop-drop, get_or-drop}
use Rattle.std.proofs.lemmas.Str.{IsCharBoundary-after_ascii}
use Rattle.std.specs.Str.{IsCharBoundary, IsUtf8}
use Rattle.workspace.specs.Labels.{LabelParts, label_text, is_label, parts_kept, IsLabelKept}
use Rattle.workspace.proofs.LabelLaws.{front, back}

-- what follows the package in a label's text
rest_kept : (l : LabelParts) → drop (length l.«package» + 2) (label_text l) ≡ 58 ∷ l.name
rest_kept l =
    let place : length l.«package» + 2 ≡ 2 + length l.«package» = omega arith in
    ap (λ (n : ℕ). drop n (label_text l)) place ∙ sym (drop-drop (length l.«package») 2 (label_text l))
    ∙ back l.«package» (58 ∷ l.name)

name_kept : (l : LabelParts) → drop (length l.«package» + 3) (label_text l) ≡ l.name
name_kept l =
    let place : length l.«package» + 3 ≡ length l.«package» + 2 + 1 = omega arith in
    ap (λ (n : ℕ). drop n (label_text l)) place ∙ sym (drop-drop 1 (length l.«package» + 2) (label_text l))
    ∙ ap (drop 1) (rest_kept l)

-- a label is read off its text
parts_kept-text : (l : LabelParts) → parts_kept (label_text l) (length l.«package») ≡ l
parts_kept-text l = λ i. record { «package» = front l.«package» (58 ∷ l.name) i; name = name_kept l i }

pub parts_of : (text : List ℕ) (l : LabelParts) → text ≡ label_text l → parts_kept text (length l.«package») ≡ l
parts_of text l e = ap (λ (t : List ℕ). parts_kept t (length l.«package»)) e ∙ parts_kept-text l

pub is_kept : (text : List ℕ) (l : LabelParts) → text ≡ label_text l → is_label l ≡ true
    → IsLabelKept text (length l.«package»)
is_kept text l e legal = record {
  spells = e ∙ sym (ap label_text (parts_of text l e));
  sized = ap (λ (k : LabelParts). length k.«package») (parts_of text l e);
  legal = ap is_label (parts_of text l e) ∙ legal;
}

-- the package begins behind a slash
pub package_begins : (text : List ℕ) (size : ℕ) → IsUtf8 text → IsLabelKept text size → IsCharBoundary text 2
package_begins text size utf8 kept =
    let long = ap length kept.spells in
    IsCharBoundary-after_ascii text 1 utf8 (omega (arith, long)) (rw (ap (λ (t : List ℕ). get_or t 1 0) kept.spells) (lit< tt))

-- and the name behind a colon
pub name_begins : (text : List ℕ) (size : ℕ) → IsUtf8 text → IsLabelKept text size → IsCharBoundary text (size + 3)
name_begins text size utf8 kept =
    let l = parts_kept text size in
    let behind : drop (size + 2) text ≡ 58 ∷ l.name =
    ap (λ (n : ℕ). drop (n + 2) text) (sym kept.sized) ∙ ap (drop (length l.«package» + 2)) kept.spells ∙ rest_kept l in
    let here : size + 2 ≡ size + 2 + 0 = omega arith in
    let next : size + 2 + 1 ≡ size + 3 = omega arith in
    let colon : get_or text (size + 2) 0 ≡ 58 =
    ap (λ (n : ℕ). get_or text n 0) here ∙ sym (get_or-drop (size + 2) text 0 0) ∙ ap (λ (t : List ℕ). get_or t 0 0) behind in
    let long = ap length behind in
    rw (sym next) (IsCharBoundary-after_ascii text (size + 2) utf8 (omega (arith, long, length-drop (size + 2) text)) (rw colon (lit< tt)))

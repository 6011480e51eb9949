-- Labels that stand twice in a list.
use Rattle.std.proofs.Common.{◌≡◌, ◌∙◌, ◌<◌, ◌+◌, ℕ, Bool, true, false, ◌&&◌, ◌||◌, List, [], ◌∷◌, ◌++◌, inl, inr, length, take, drop, get_or, ap, sym, refl}
use Rattle.std.proofs.lemmas.Cmp.{nat_list_eq_equiv}
use Rattle.std.proofs.lemmas.List.{take_more, take-append-drop}
use Rattle.std.proofs.lemmas.List.Folds.{list_any-append}
use Rattle.std.specs.List.{list_any}
use Rattle.workspace.specs.Labels.{LabelParts, same_label}
use Rattle.targets.proofs.Facts.{cases_of, or_left, or_right}
use Rattle.targets.specs.RuleCalls.{repeats}

other_way : (a b : LabelParts) → same_label a b ≡ same_label b a
other_way a b = λ i. nat_list_eq_equiv.symm a.«package» b.«package» i && nat_list_eq_equiv.symm a.name b.name i

regrouped : (a b c d : Bool) → ((a || (b || false)) || (c || d)) ≡ ((a || c) || (b || d))
regrouped true b c d = refl
regrouped false true true d = refl
regrouped false true false d = refl
regrouped false false true d = refl
regrouped false false false d = refl

-- one more behind
pub repeats-last : (ls : List LabelParts) (l : LabelParts) → repeats (ls ++ l ∷ []) ≡ (repeats ls || list_any (same_label l) ls)
repeats-last [] l = refl
repeats-last (m ∷ ms) l =
    (λ i. list_any-append (same_label m) ms (l ∷ []) i || repeats-last ms l i)
    ∙ regrouped (list_any (same_label m) ms) (same_label m l) (repeats ms) (list_any (same_label l) ms)
    ∙ ap (λ b. (list_any (same_label m) ms || repeats ms) || (b || list_any (same_label l) ms)) (other_way m l)

repeats-front : (ls ms : List LabelParts) → repeats ls ≡ true → repeats (ls ++ ms) ≡ true
repeats-front [] ms h = absurd (cc)
repeats-front (l ∷ ls) ms h = elim (cases_of (list_any (same_label l) ls)) [
  | inl there ↦
      or_left (list_any (same_label l) (ls ++ ms)) (repeats (ls ++ ms))
      (list_any-append (same_label l) ls ms ∙ or_left (list_any (same_label l) ls) (list_any (same_label l) ms) there)
  | inr not ↦
      or_right (list_any (same_label l) (ls ++ ms)) (repeats (ls ++ ms)) (repeats-front ls ms (sym (ap (λ b. b || repeats ls) not) ∙ h))
]

-- those before a place and the label there
pub repeats-more : (ls : List LabelParts) (i : ℕ) (d : LabelParts) → i < length ls → repeats (take (i + 1) ls) ≡ (repeats (take i ls) || list_any (same_label (get_or ls i d)) (take i ls))
repeats-more ls i d lt = ap repeats (take_more ls i d lt) ∙ repeats-last (take i ls) (get_or ls i d)

pub repeats-whole : (ls : List LabelParts) (i : ℕ) → repeats (take i ls) ≡ true → repeats ls ≡ true
repeats-whole ls i h = sym (ap repeats (take-append-drop i ls)) ∙ repeats-front (take i ls) (drop i ls) h

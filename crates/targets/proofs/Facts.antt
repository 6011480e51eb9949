-- Tests, lists, and the test of labels.
use Rattle.std.proofs.Common.{◌≡◌, ◌⊎◌, inl, inr, ◌∙◌, zero, suc, Bool, true, false, ◌&&◌, ◌||◌, List, [], ◌∷◌, Contains, Decides, ap, sym, refl, subst, arith, true≢false}
use Rattle.std.proofs.lemmas.Slice.Eq.{bytes_eq-Decides}
use Rattle.std.specs.List.{list_any}
use Rattle.std.specs.Str.{bytes_eq}
use Rattle.workspace.specs.Labels.{LabelParts, same_label}

pub cases_of : (b : Bool) → (b ≡ true) ⊎ (b ≡ false)
cases_of true = inl refl
cases_of false = inr refl

pub both : (a b : Bool) → (a && b) ≡ true → (a ≡ true) × (b ≡ true)
both true b h = (refl, h)
both false b h = absurd (true≢false (sym h))

pub neither : (a b : Bool) → (a || b) ≡ false → (a ≡ false) × (b ≡ false)
neither true b n = absurd (true≢false n)
neither false b n = (refl, n)

pub or_left : (a b : Bool) → a ≡ true → (a || b) ≡ true
or_left true b h = refl
or_left false b h = absurd (true≢false (sym h))

pub or_right : (a b : Bool) → b ≡ true → (a || b) ≡ true
or_right true b h = refl
or_right false b h = h

pub none_in : {A : Type 0} (x : A) → Contains [] x → ⊥
none_in x h = let none = h.1 in absurd (omega (arith, none))

pub head_in : {A : Type 0} (x : A) (xs : List A) → Contains (x ∷ xs) x
head_in x xs = (0, omega arith, refl)

pub tail_in : {A : Type 0} (x : A) (xs : List A) (z : A) → Contains xs z → Contains (x ∷ xs) z
tail_in x xs z (k, lt, is) = (suc k, omega (arith, lt), is)

pub in_split : {A : Type 0} (x : A) (xs : List A) (z : A) → Contains (x ∷ xs) z → (x ≡ z) ⊎ Contains xs z
in_split x xs z (zero, lt, is) = inl is
in_split x xs z (suc k, lt, is) = inr (k, omega (arith, lt), is)

-- the test of labels tells the same from different ones
pub same_label-own : (l : LabelParts) → same_label l l ≡ true
same_label-own l =
    let p = (bytes_eq-Decides l.«package» l.«package»).1 refl in
    let n = (bytes_eq-Decides l.name l.name).1 refl in
    ap (λ b. b && bytes_eq l.name l.name) p ∙ n

pub same_label-same : (a b : LabelParts) → same_label a b ≡ true → a ≡ b
same_label-same a b h =
    let parts = both (bytes_eq a.«package» b.«package») (bytes_eq a.name b.name) h in
    let p = (bytes_eq-Decides a.«package» b.«package»).0 parts.0 in
    let n = (bytes_eq-Decides a.name b.name).0 parts.1 in
    λ j. record { «package» = p j; name = n j }

pub same_label-decides : (a b : LabelParts) → Decides (same_label a b) (a ≡ b)
same_label-decides a b = (same_label-same a b, λ h. subst (λ (c : LabelParts). same_label a c ≡ true) h (same_label-own a))

-- a label is in a list where the test finds it
pub found_in : (l : LabelParts) (ls : List LabelParts) → list_any (same_label l) ls ≡ true → Contains ls l
found_in l [] h = absurd (true≢false (sym h))
found_in l (m ∷ ms) h = elim (cases_of (same_label l m)) [
  | inl here ↦ subst (λ (x : LabelParts). Contains (m ∷ ms) x) (sym (same_label-same l m here)) (head_in m ms)
  | inr not ↦ tail_in m ms l (found_in l ms (sym (ap (λ b. b || list_any (same_label l) ms) not) ∙ h))
]

pub in_found : (l : LabelParts) (ls : List LabelParts) → Contains ls l → list_any (same_label l) ls ≡ true
in_found l [] h = absurd (none_in l h)
in_found l (m ∷ ms) h = elim (in_split m ms l h) [
  | inl e ↦ or_left (same_label l m) (list_any (same_label l) ms) (subst (λ (x : LabelParts). same_label l x ≡ true) (sym e) (same_label-own l))
  | inr later ↦ or_right (same_label l m) (list_any (same_label l) ms) (in_found l ms later)
]

-- Labels that are noted, in a list and in a set of keys.
use Rattle.std.proofs.Common.{◌≡◌, ◌∙◌, ℕ, Bool, true, false, ◌&&◌, ◌||◌, List, [], ◌∷◌, ◌++◌, ap, sym, refl, cond}
use Rattle.std.proofs.lemmas.Cmp.{nat_list_eq_equiv}
use Rattle.std.proofs.lemmas.List.Folds.{list_any-append}
use Rattle.std.specs.BTreeMap.{is_at}
use Rattle.std.specs.BTreeSet.{BTreeSet, Updates}
use Rattle.std.specs.Cmp.{nat_cmp_is}
use Rattle.std.specs.Cmp.Lexicographic.{slice_cmp, texts_ties}
use Rattle.std.specs.List.{list_any}
use Rattle.std.specs.Ordering.{nat_cmp, ordering_then}
use Rattle.std.specs.Str.{bytes_eq}
use Rattle.std.specs.declared.cmp.Ordering.{Ordering}
use Rattle.std.specs.declared.cmp.Ordering.TheVariants.{Less, Equal, Greater}
use Rattle.depsets.specs.Keys.{keep}
use Rattle.workspace.specs.Labels.{LabelParts, label_text, same_label}
use Rattle.targets.proofs.Facts.{same_label-same}
use Rattle.analysis.specs.Keyed.{Key, key_label, key_cmp, text_digest, IsKey, IsNoted}

abbrev pub is_equal : Ordering → Bool
is_equal o = is_at (λ (u : ℕ). o) 0

-- a pair compares as equal where both parts do
pub both_at : (a b : Ordering) → is_equal (ordering_then a b) ≡ (is_equal a && is_equal b)
both_at Less b = refl
both_at Equal b = refl
both_at Greater b = refl

swapped : (a b : Bool) → (a && b) ≡ (b && a)
swapped true true = refl
swapped true false = refl
swapped false true = refl
swapped false false = refl

-- the order of names and of packages tells labels as their test does
at_label : (l m : LabelParts) → (is_equal (slice_cmp nat_cmp l.name m.name) && is_equal (slice_cmp nat_cmp l.«package» m.«package»)) ≡ same_label m l
at_label l m = (λ i. at l.name m.name i && at l.«package» m.«package» i) ∙ swapped (bytes_eq m.name l.name) (bytes_eq m.«package» l.«package»)
  where
    at : (x y : List ℕ) → is_at (slice_cmp nat_cmp x) y ≡ bytes_eq y x
    at x y = sym (texts_ties x y) ∙ nat_list_eq_equiv.symm x y

-- a test that follows from another says no more beside it
implied : (a b : Bool) → (b ≡ true → a ≡ true) → (a && b) ≡ b
implied true b h = refl
implied false true h = h refl
implied false false h = refl

same_digest : (m n : ℕ) → n ≡ m → is_equal (nat_cmp m n) ≡ true
same_digest m n e = ap (λ (d : ℕ). is_equal (nat_cmp m d)) e ∙ ap is_equal (sym (nat_cmp_is m m Equal refl))

grouped : (a b c : Bool) → ((a && b) && c) ≡ (a && (b && c))
grouped true b c = refl
grouped false b c = refl

-- the order of keys tells labels as their test does
pub at_key : (k q : Key) → IsKey k → IsKey q → is_at (key_cmp k) q ≡ same_label (key_label q) (key_label k)
at_key k q of_k of_q =
    let digests = nat_cmp k.0 q.0 in
    let names = slice_cmp nat_cmp k.1.now q.1.now in
    let packages = slice_cmp nat_cmp k.2.now q.2.now in
    both_at (ordering_then digests names) packages
    ∙ ap (λ (b : Bool). b && is_equal packages) (both_at digests names)
    ∙ grouped (is_equal digests) (is_equal names) (is_equal packages)
    ∙ ap (λ (b : Bool). is_equal digests && b) (at_label (key_label k) (key_label q))
    ∙ implied (is_equal digests) (same_label (key_label q) (key_label k))
    (λ h. same_digest k.0 q.0
    (of_q ∙ ap (λ (l : LabelParts). text_digest (label_text l)) (same_label-same (key_label q) (key_label k) h) ∙ sym of_k))

pub noted_none : (seen : BTreeSet Key) → seen.keys ≡ [] → IsNoted [] seen
noted_none seen none = λ q _. ap (list_any (is_at (key_cmp q))) none

either : (a b : Bool) → cond a true b ≡ (b || (a || false))
either true true = refl
either true false = refl
either false true = refl
either false false = refl

pub noted_last : (ls : List LabelParts) (olds news : BTreeSet Key) (k : Key) → IsKey k → IsNoted ls olds → Updates key_cmp olds news k true → IsNoted (ls ++ key_label k ∷ []) news
noted_last ls olds news k of_k h more = λ q of_q.
    more.0 q ∙ rw (at_key k q of_k of_q, h q of_q) (either (same_label (key_label q) (key_label k)) (list_any (same_label (key_label q)) ls))
    ∙ sym (list_any-append (same_label (key_label q)) ls (key_label k ∷ []))

-- a label that is there isn't put again
pub kept_present : (ls : List LabelParts) (l : LabelParts) → list_any (same_label l) ls ≡ true → ls ≡ keep same_label ls l
kept_present ls l h = sym (ap (λ b. cond b ls (ls ++ l ∷ [])) h)

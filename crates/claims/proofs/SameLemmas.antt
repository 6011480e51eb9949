-- Two actions are equal exactly where what is compared of them is the same.
use Rattle.std.proofs.Common.{◌≡◌, ◌∙◌, ℕ, Bool, true, false, ◌&&◌, List, Option, Some, None, refl, sym, ap, subst}
use Rattle.std.specs.Option.{option_eq}
use Rattle.std.specs.Str.{bytes_eq}
use Rattle.std.proofs.lemmas.Bool.{true≢false}
use Rattle.std.proofs.lemmas.Slice.Eq.{bytes_eq-Decides, slice_eq-Decides}
use Rattle.claims.specs.Same.{Compared, same_parts, same_texts}

both : (a b : Bool) → (a && b) ≡ true → (a ≡ true) × (b ≡ true)
both true b h = (refl, h)
both false b h = absurd (true≢false (sym h))

and : (a b : Bool) → a ≡ true → b ≡ true → (a && b) ≡ true
and a b p q = ap (λ x. x && b) p ∙ q

pub texts_same : (xs ys : List (List ℕ)) → same_texts xs ys ≡ true → xs ≡ ys
texts_same xs ys h = (slice_eq-Decides bytes_eq-Decides xs ys (same_texts xs ys) refl).0 h

pub texts_alike : (xs ys : List (List ℕ)) → xs ≡ ys → same_texts xs ys ≡ true
texts_alike xs ys h = (slice_eq-Decides bytes_eq-Decides xs ys (same_texts xs ys) refl).1 h

content_same : (x y : Option (List ℕ)) → option_eq bytes_eq x y ≡ true → x ≡ y
content_same None None h = refl
content_same None (Some y) h = absurd (true≢false (sym h))
content_same (Some x) None h = absurd (true≢false (sym h))
content_same (Some x) (Some y) h = ap Some ((bytes_eq-Decides x y).0 h)

content_itself : (x : Option (List ℕ)) → option_eq bytes_eq x x ≡ true
content_itself None = refl
content_itself (Some x) = (bytes_eq-Decides x x).1 refl

pub parts_same : (a b : Compared) → same_parts a b ≡ true → a ≡ b
parts_same a b h =
    let m = both (bytes_eq a.mnemonic b.mnemonic) _ h in
    let o = both (same_texts a.outputs b.outputs) _ m.1 in
    let i = both (same_texts a.inputs b.inputs) _ o.1 in
    let w = both (same_texts a.words b.words) (option_eq bytes_eq a.content b.content) i.1 in
    let em = (bytes_eq-Decides a.mnemonic b.mnemonic).0 m.0 in
    let eo = texts_same a.outputs b.outputs o.0 in
    let ei = texts_same a.inputs b.inputs i.0 in
    let ew = texts_same a.words b.words w.0 in
    let ec = content_same a.content b.content w.1 in
    λ j. record { mnemonic = em j; outputs = eo j; inputs = ei j; words = ew j; content = ec j }

pub parts_itself : (a : Compared) → same_parts a a ≡ true
parts_itself a =
    and (bytes_eq a.mnemonic a.mnemonic) _ ((bytes_eq-Decides a.mnemonic a.mnemonic).1 refl)
    (and (same_texts a.outputs a.outputs) _ (texts_alike a.outputs a.outputs refl)
    (and (same_texts a.inputs a.inputs) _ (texts_alike a.inputs a.inputs refl)
    (and (same_texts a.words a.words) _ (texts_alike a.words a.words refl) (content_itself a.content))))

by_test : (b : Bool) → (b ≡ true → ⊥) → b ≡ false
by_test true h = absurd (h refl)
by_test false h = refl

pub parts_turned : (a b : Compared) (r : Bool) → same_parts a b ≡ r → same_parts b a ≡ r
parts_turned a b true h = subst (λ c. same_parts c a ≡ true) (parts_same a b h) (parts_itself a)
parts_turned a b false h =
    by_test (same_parts b a) (λ e. true≢false (sym (subst (λ c. same_parts a c ≡ true) (sym (parts_same b a e)) (parts_itself a)) ∙ h))

-- equal parts are equal to the same
pub parts_follow : (a b c : Compared) → same_parts a b ≡ true → same_parts a c ≡ same_parts b c
parts_follow a b c h = ap (λ x. same_parts x c) (parts_same a b h)

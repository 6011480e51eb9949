-- Bytes below 128, by the test and by places.
use Rattle.std.proofs.Common.{◌≡◌, ℕ, zero, suc, ◌+◌, ◌<◌, ◌≤◌, Bool, true, false, ◌&&◌, not, nat_lt, List, [], ◌∷◌, ◌++◌, length, take, drop, refl, sym, ap, ◌∙◌, arith, rules, length-take, length-drop, length-append}
use Rattle.std.specs.Bool.{MatchBool}
use Rattle.std.specs.Str.{IsAscii, IsNotAscii}
use Rattle.std.proofs.lemmas.Str.{IsAscii-take, IsAscii-drop, IsAscii-append}
use Rattle.strings.specs.Texts.{is_ascii, is_text, MOST_BYTES}

pub left : (a b : Bool) → (a && b) ≡ true → a ≡ true
left true b e = refl
left false b e = e

pub right : (a b : Bool) → (a && b) ≡ true → b ≡ true
right true b e = e
right false b e = absurd (cc)

pub both : (a b : Bool) → a ≡ true → b ≡ true → (a && b) ≡ true
both true b e f = f
both false b e f = e

below : (b : ℕ) → nat_lt b 128 ≡ true → b < 128
below b e = grind (arith, rules)

is_below : (b : ℕ) → b < 128 → nat_lt b 128 ≡ true
is_below b l = grind (arith, rules)

pub to_places : (t : List ℕ) → is_ascii t ≡ true → IsAscii t
to_places [] e i = omega arith
to_places (b ∷ t) e zero = below b (left (nat_lt b 128) (is_ascii t) e)
to_places (b ∷ t) e (suc i) = to_places t (right (nat_lt b 128) (is_ascii t) e) i

pub from_places : (t : List ℕ) → IsAscii t → is_ascii t ≡ true
from_places [] h = refl
from_places (b ∷ t) h = both (nat_lt b 128) (is_ascii t) (is_below b (h 0)) (from_places t (λ i. h (suc i)))

seen : (t : List ℕ) → IsNotAscii t → (b : Bool) → is_ascii t ≡ b → is_ascii t ≡ false
seen t n true e = let l = to_places t e n.0 in absurd (omega (arith, l, n.1))
seen t n false e = e

pub test_is : (t : List ℕ) (b : Bool) → MatchBool b (IsAscii t) (IsNotAscii t) → is_ascii t ≡ b
test_is t true h = from_places t h
test_is t false h = seen t h (is_ascii t) refl

-- ---- texts

not_above : (n : ℕ) → not (nat_lt MOST_BYTES n) ≡ true → n ≤ 1048576
not_above n e = grind (arith, rules)

is_not_above : (n : ℕ) → n ≤ 1048576 → not (nat_lt MOST_BYTES n) ≡ true
is_not_above n l = grind (arith, rules)

pub text_ascii : (t : List ℕ) → is_text t ≡ true → is_ascii t ≡ true
text_ascii t e = left (is_ascii t) (not (nat_lt MOST_BYTES (length t))) e

pub text_short : (t : List ℕ) → is_text t ≡ true → length t ≤ 1048576
text_short t e = not_above (length t) (right (is_ascii t) (not (nat_lt MOST_BYTES (length t))) e)

pub text_from : (t : List ℕ) → is_ascii t ≡ true → length t ≤ 1048576 → is_text t ≡ true
text_from t e l = both (is_ascii t) (not (nat_lt MOST_BYTES (length t))) e (is_not_above (length t) l)

pub text_places : (t : List ℕ) → is_text t ≡ true → IsAscii t
text_places t e = to_places t (text_ascii t e)

pub text_take : (t : List ℕ) (n : ℕ) → is_text t ≡ true → is_text (take n t) ≡ true
text_take t n e =
    text_from (take n t) (from_places (take n t) (IsAscii-take t n (text_places t e))) (let l = text_short t e in omega (arith, l, length-take n t))

pub text_drop : (t : List ℕ) (n : ℕ) → is_text t ≡ true → is_text (drop n t) ≡ true
text_drop t n e =
    text_from (drop n t) (from_places (drop n t) (IsAscii-drop t n (text_places t e))) (let l = text_short t e in omega (arith, l, length-drop n t))

pub ascii_append : (a b : List ℕ) → is_ascii a ≡ true → is_ascii b ≡ true → is_ascii (a ++ b) ≡ true
ascii_append a b e f = from_places (a ++ b) (IsAscii-append a b (to_places a e) (to_places b f))

-- ---- the test of a text

no_text : (t : List ℕ) (b : Bool) → is_text t ≡ b → 1048576 < length t → false ≡ b
no_text t true e l = let h = text_short t e in absurd (omega (arith, h, l))
no_text t false e l = refl

pub long_is_none : (t : List ℕ) → 1048576 < length t → false ≡ is_text t
long_is_none t l = no_text t (is_text t) refl l

and_true : (a b : Bool) → b ≡ true → a ≡ (a && b)
and_true true b e = sym e
and_true false b e = refl

pub short_is : (t : List ℕ) (b : Bool) → length t ≤ 1048576 → MatchBool b (IsAscii t) (IsNotAscii t) → b ≡ is_text t
short_is t b l m = sym (test_is t b m) ∙ and_true (is_ascii t) (not (nat_lt MOST_BYTES (length t))) (is_not_above (length t) l)

pub sum_is_text : (x a b : List ℕ) → x ≡ a ++ b → is_text a ≡ true → is_text b ≡ true → length a + length b ≤ 1048576 → is_text x ≡ true
sum_is_text x a b e f g l =
    ap is_text e ∙ text_from (a ++ b) (ascii_append a b (text_ascii a f) (text_ascii b g)) (omega (arith, length-append a b, l))

pub put_ascii : (old sep part : List ℕ) → is_text sep ≡ true → is_text part ≡ true → is_ascii old ≡ true → is_ascii (old ++ sep ++ part) ≡ true
put_ascii old sep part e f g = ascii_append (old ++ sep) part (ascii_append old sep g (text_ascii sep e)) (text_ascii part f)

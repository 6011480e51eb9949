-- Laws of what a string's body stands for.
use Rattle.std.proofs.Common.{ℕ, zero, suc, ◌≡◌, ◌≢◌, ◌+◌, ◌<◌, ◌==◌, ◌&&◌, Bool, true, false, not, List, [], ◌∷◌, ◌++◌, length, drop, get_or, refl, sym, ap, Some, slice_get, add-one, drop-cons, arith}
use Rattle.std.specs.Prelude.{bytes_eq}
use Rattle.std.proofs.lemmas.Option.{slice_get_within, get_or_from_slice_get}
use Rattle.std.proofs.lemmas.Bool.Decides.{nat_tests}
use Rattle.lexer.specs.Strings.{backslash, meaning_of, unescaped_from}

-- what a body stands for from a place on: what its byte there stands for, and what follows
pub opened : (escaped : Bool) (body : List ℕ) (i : ℕ) → i < length body
    → unescaped_from escaped (drop i body)
    ≡ meaning_of escaped (get_or body i 0) ++ unescaped_from (not escaped && get_or body i 0 == backslash) (drop (i + 1) body)
opened escaped body i h = rw (add-one, drop-cons body i 0) refl

same_front : (b : ℕ) (rest bytes : List ℕ) → bytes_eq (b ∷ rest) (b ∷ bytes) ≡ bytes_eq rest bytes
same_front b rest bytes =
    let e : (b == b) ≡ true = grind (arith, nat_tests) in
    rw e refl

-- bytes that go on with a byte
pub goes_on_with : (bytes rest : List ℕ) (place b : ℕ) → slice_get bytes place ≡ Some b
    → bytes_eq (b ∷ rest) (drop place bytes) ≡ bytes_eq rest (drop (place + 1) bytes)
goes_on_with bytes rest place b e =
    let h : place < length bytes = slice_get_within bytes place b e in
    let k : get_or bytes place 0 ≡ b = get_or_from_slice_get bytes place b 0 e in
    rw (add-one, drop-cons bytes place 0, k) (same_front b rest (drop (suc place) bytes))

-- bytes that don't
pub goes_on_otherwise : (bytes rest : List ℕ) (place b : ℕ) → (slice_get bytes place ≡ Some b → ⊥)
    → bytes_eq (b ∷ rest) (drop place bytes) ≡ false
goes_on_otherwise [] rest zero b h = refl
goes_on_otherwise [] rest (suc place) b h = refl
goes_on_otherwise (x ∷ bytes) rest zero b h =
    let k : b ≢ x = λ e. h (ap Some (sym e)) in
    let e : (b == x) ≡ false = grind (arith, nat_tests) in
    rw e refl
goes_on_otherwise (x ∷ bytes) rest (suc place) b h = goes_on_otherwise bytes rest place b h

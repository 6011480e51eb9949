-- Laws of the lines of a text that was read, and of its bytes.
use Rattle.std.proofs.Common.{ℕ, zero, suc, ◌≡◌, ◌+◌, ◌-◌, ◌<◌, ◌≤◌, Bool, true, false, not, cond, nat_lt, List, [], ◌∷◌, length, map, take, drop, refl, ap, ◌∙◌, sym, Some, None, slice_get, slice_index, add-one, arith}
use Rattle.std.specs.Prelude.{slice_range}
use Rattle.std.specs.List.{position_or_len}
use Rattle.std.specs.Option.{option_map}
use Rattle.std.specs.Str.{IsAscii}
use Rattle.std.proofs.lemmas.List.{length-map, take-map, drop-map}
use Rattle.std.proofs.lemmas.Option.{none-some}
use Rattle.std.proofs.lemmas.Str.Ascii.{IsAscii-nil, IsAscii-cons}
use Rattle.std.proofs.lemmas.Bool.Decides.{nat_tests}
use Rattle.lexer.specs.Tokens.{Placed}
use Rattle.lexer.specs.Characters.{is_character, line_at, character_fault}
use Rattle.lexer.specs.Lines.{Read, lines_at}

pub lines_length : (places : List ℕ) (ts : List Placed) → length (lines_at places ts) ≡ length places
lines_length [] ts = refl
lines_length (place ∷ places) ts = ap suc (lines_length places ts)

pub range_map : {X Y : Type 0} (f : X → Y) (xs : List X) (a b : ℕ) → slice_range (map f xs) a b ≡ map f (slice_range xs a b)
range_map f xs a b = ap (take (b - a)) (drop-map f a xs) ∙ take-map f (b - a) (drop a xs)

-- a line goes up to where the next one begins
inner : (places : List ℕ) (ts : List Placed) (i : ℕ) → suc i < length places
    → slice_get (lines_at places ts) i ≡ Some (slice_range ts (slice_index places i) (slice_index places (suc i)))
inner [] ts i h = absurd (omega arith)
inner (place ∷ []) ts i h = absurd (omega arith)
inner (place ∷ next ∷ places) ts zero h = refl
inner (place ∷ next ∷ places) ts (suc i) h = inner (next ∷ places) ts i (omega arith)

-- the last line goes up to the end
last : (places : List ℕ) (ts : List Placed) (i : ℕ) → i < length places → length places ≤ suc i
    → slice_get (lines_at places ts) i ≡ Some (slice_range ts (slice_index places i) (length ts))
last [] ts i h k = absurd (omega arith)
last (place ∷ []) ts zero h k = refl
last (place ∷ []) ts (suc i) h k = absurd (omega arith)
last (place ∷ next ∷ places) ts zero h k = absurd (omega arith)
last (place ∷ next ∷ places) ts (suc i) h k = last (next ∷ places) ts i (omega arith) (omega arith)

pub inner_line : {T : Type 0} (f : T → Placed) (places : List ℕ) (ts line : List T) (i start end : ℕ) → i + 1 < length places
    → start ≡ slice_index places i → end ≡ slice_index places (i + 1) → line ≡ slice_range ts start end
    → slice_get (lines_at places (map f ts)) i ≡ Some (map f line)
inner_line f places ts line i start end h s e l =
    let g : suc i < length places = omega arith in
    rw (l, s, e, add-one) (inner places (map f ts) i g ∙ ap Some (range_map f ts (slice_index places i) (slice_index places (suc i))))

pub last_line : {T : Type 0} (f : T → Placed) (places : List ℕ) (ts line : List T) (i start all : ℕ) → i < length places
    → length places ≤ i + 1 → start ≡ slice_index places i → all ≡ length ts → line ≡ slice_range ts start all
    → slice_get (lines_at places (map f ts)) i ≡ Some (map f line)
last_line f places ts line i start all h g s a l =
    let k : length places ≤ suc i = omega arith in
    let e : length (map f ts) ≡ length ts = length-map ts f in
    rw (l, s, a) (last places (map f ts) i h k ∙ ap Some (ap (slice_range (map f ts) (slice_index places i)) e ∙ range_map f ts (slice_index places i) (length ts)))

pub same_length : (places : List ℕ) (ts : List Placed) (r : Read) (text : List ℕ)
    → ◌≡◌ {A = Read} (record { text = text; lines = lines_at places ts }) r → length r.lines ≡ length places
same_length places ts r text e = ap (λ r. length r.lines) (sym e) ∙ lines_length places ts

is_small : (b : ℕ) → is_character b ≡ true → b < 128
is_small b e = grind (arith, nat_tests)

small_front : (b : ℕ) (bs : List ℕ) (passes : Bool) (n : ℕ) → is_character b ≡ passes → suc (length bs) ≤ cond (not (not passes)) (1 + n) 0
    → (length bs ≤ n → IsAscii bs) → IsAscii (b ∷ bs)
small_front b bs true n e h rest = IsAscii-cons b bs (is_small b e) (rest (omega arith))
small_front b bs false n e h rest = absurd (omega arith)

small_bytes : (bs : List ℕ) → length bs ≤ position_or_len (λ b. not (is_character b)) bs → IsAscii bs
small_bytes [] h = IsAscii-nil
small_bytes (b ∷ bs) h =
    small_front b bs (is_character b) (position_or_len (λ b. not (is_character b)) bs) refl h (small_bytes bs)

none_found : (f : ℕ → ℕ) (found : Bool) (n : ℕ) → None ≡ option_map f (cond found (Some n) None) → found ≡ false
none_found f true n e = absurd (none-some (f n) e)
none_found f false n e = refl

-- a text of characters is ASCII
pub characters_small : (text : List ℕ) → None ≡ character_fault text → IsAscii text
characters_small text e =
    let n = position_or_len (λ b. not (is_character b)) text in
    let found : nat_lt n (length text) ≡ false = none_found (line_at text) (nat_lt n (length text)) n e in
    let h : length text ≤ n = grind (arith, nat_tests) in
    small_bytes text h

-- By its first byte it is settled which kind of token can begin, and names and numbers are as the relation has them.
use Rattle.std.proofs.Common.{ℕ, ◌≡◌, ◌≢◌, ◌≤◌, Bool, true, false, not, ◌||◌, ◌⊎◌, inl, inr, ◌==◌, nat_lt, List, [], ◌∷◌, ◌++◌, length, take, drop, refl, sym, ap, subst, ◌∙◌, arith, Some, None, if◌then◌else◌}
use Rattle.std.specs.List.{list_all}
use Rattle.std.proofs.lemmas.Bool.Decides.{nat_tests}
use Rattle.std.proofs.lemmas.List.{take_at}
use Rattle.lexer.specs.Characters.{newline}
use Rattle.lexer.specs.Tokens.{Token, number}
use Rattle.lexer.specs.Words.{word_or_name}
use Rattle.lexer.specs.Strings.{is_quote}
use Rattle.lexer.specs.Begins.{Begins, space, line_end, comment, token, is_digit, is_letter, is_word_byte, run_length, name_at, greatest_number, value_after, digits_follow, number_token, number_at, string_at, mark_at, begins}
use Rattle.lexer.specs.Fits.{IsWordLike, Spells, goes_on, StandsOff}
use Rattle.lexer.proofs.RunLaws.{either, passes_next, run_passes, run_longest, run_exact, run_within, run_stops}
use Rattle.lexer.proofs.WordLaws.{word_is, stands_off_word}

-- what begins, by tests in order
by_tests : (a b c d e f : Bool) (n : ℕ) (quoted numeral named marked : Begins) (t : Token) (k : ℕ)
    → (if a then space else if b then line_end else if c then comment n
    else if d then quoted else if e then numeral else if f then named else marked) ≡ token t k
    → ((d ≡ true) × (quoted ≡ token t k)) ⊎ ((e ≡ true) × (numeral ≡ token t k))
    ⊎ ((f ≡ true) × (named ≡ token t k)) ⊎ (marked ≡ token t k)
by_tests true b c d e f n q u m r t k h = absurd cc
by_tests false true c d e f n q u m r t k h = absurd cc
by_tests false false true d e f n q u m r t k h = absurd cc
by_tests false false false true e f n q u m r t k h = inl (refl, h)
by_tests false false false false true f n q u m r t k h = inr (inl (refl, h))
by_tests false false false false false true n q u m r t k h = inr (inr (inl (refl, h)))
by_tests false false false false false false n q u m r t k h = inr (inr (inr h))

-- a token that begins is a string, a number, a name or word, or a mark
pub begins_one : (b : ℕ) (bs : List ℕ) (t : Token) (k : ℕ) → begins b bs ≡ token t k
    → ((is_quote b ≡ true) × (string_at b bs ≡ token t k)) ⊎ ((is_digit b ≡ true) × (number_at b bs ≡ token t k))
    ⊎ ((is_letter b ≡ true) × (name_at b bs ≡ token t k)) ⊎ (mark_at b bs ≡ token t k)
unfolding begins
begins_one b bs t k e =
    by_tests (b == 32) (b == newline) (b == 35) (is_quote b) (is_digit b) (is_letter b) _
    (string_at b bs) (number_at b bs) (name_at b bs) (mark_at b bs) t k e

-- at a letter begins a name or a word
pub begins_name : (b : ℕ) (bs : List ℕ) → is_letter b ≡ true → begins b bs ≡ name_at b bs
unfolding begins
begins_name b bs h =
    let x : (b == 32) ≡ false = grind (arith, nat_tests) in
    let y : (b == newline) ≡ false = grind (arith, nat_tests) in
    let z : (b == 35) ≡ false = grind (arith, nat_tests) in
    let q : is_quote b ≡ false = grind (arith, nat_tests) in
    let d : is_digit b ≡ false = grind (arith, nat_tests) in
    rw (x, y, z, q, d, h) refl

-- at a digit begins a number
pub begins_number : (b : ℕ) (bs : List ℕ) → is_digit b ≡ true → begins b bs ≡ number_at b bs
unfolding begins
begins_number b bs h =
    let x : (b == 32) ≡ false = grind (arith, nat_tests) in
    let y : (b == newline) ≡ false = grind (arith, nat_tests) in
    let z : (b == 35) ≡ false = grind (arith, nat_tests) in
    let q : is_quote b ≡ false = grind (arith, nat_tests) in
    rw (x, y, z, q, h) refl

-- at a quote begins a string
pub begins_string : (b : ℕ) (bs : List ℕ) → is_quote b ≡ true → begins b bs ≡ string_at b bs
unfolding begins
begins_string b bs h =
    let x : (b == 32) ≡ false = grind (arith, nat_tests) in
    let y : (b == newline) ≡ false = grind (arith, nat_tests) in
    let z : (b == 35) ≡ false = grind (arith, nat_tests) in
    rw (x, y, z, h) refl

-- what begins at a byte, up to its end, is a token as the relation has it
abbrev pub IsToken : ℕ → List ℕ → Token → ℕ → Type 0
IsToken b bs t k = (k ≤ length bs) × Spells (b ∷ take k bs) t × StandsOff t (drop k bs)

-- a token begins that is at least as long as this one, and is this one where it is as long
abbrev pub BeginsAsLong : ℕ → List ℕ → ℕ → Token → Type 0
BeginsAsLong b bs n u = (t : Token) × (k : ℕ) × (begins b bs ≡ token t k) × (n ≤ k) × (n ≡ k → u ≡ t)

-- a name or a word that begins is one
pub name_is : (b : ℕ) (bs : List ℕ) (t : Token) (k : ℕ) → is_letter b ≡ true → name_at b bs ≡ token t k → IsToken b bs t k
name_is b bs t k h e =
    let r = run_length is_word_byte bs in
    let made : word_or_name (b ∷ take r bs) ≡ t = cc in
    let long : r ≡ k = cc in
    let spelled : Spells (b ∷ take r bs) t = word_is (b ∷ take r bs) t (h, run_passes is_word_byte bs) made in
    let shown : IsToken b bs t r = (run_within is_word_byte bs, spelled, stands_off_word (b ∷ take r bs) t (drop r bs) made) in
    subst (λ (n : ℕ). IsToken b bs t n) long shown

-- where bytes are like a word, before others, a name or a word begins that is at least as long
pub name_as_long : (b : ℕ) (front further : List ℕ) (u : Token) → IsWordLike (b ∷ front) → word_or_name (b ∷ front) ≡ u
    → BeginsAsLong b (front ++ further) (length front) u
name_as_long b front further u h e =
    let r = run_length is_word_byte (front ++ further) in (
      word_or_name (b ∷ take r (front ++ further)),
      r,
      begins_name b (front ++ further) h.0,
      run_longest is_word_byte front further h.1,
      λ same. sym e ∙ ap (λ w. word_or_name (b ∷ w)) (sym (take_at front further r same)),
    )

-- two tests that a number passes
number_tested : (a b : Bool) (n k m : ℕ) (t : Token)
    → number_token m (if a || not b then None else Some n) ≡ token t k → (a ≡ false) × (b ≡ true) × (number n ≡ t) × (m ≡ k)
number_tested true b n k m t e = absurd cc
number_tested false false n k m t e = absurd cc
number_tested false true n k m t e = (refl, refl, cc, cc)

-- what follows a number's first digit is digits, and nothing where that is 0
follow_is : (b : ℕ) (ds : List ℕ) → digits_follow b ds ≡ true → (list_all is_digit ds ≡ true) × (b ≡ 48 → ds ≡ [])
follow_is b [] h = (refl, λ e. refl)
follow_is b (d ∷ ds) h = elim (either (b == 48)) [
  | inl z ↦ let none : false ≡ true = rw z at h in absurd cc
  | inr z ↦
      let other : b ≢ 48 = grind (arith, nat_tests) in
      (rw z at h, λ e. absurd (other e))
]

-- digits follow a number's first digit, where none follow a 0
follow_as : (b : ℕ) (ds : List ℕ) → list_all is_digit ds ≡ true → (b ≡ 48 → ds ≡ []) → digits_follow b ds ≡ true
follow_as b [] h n = refl
follow_as b (d ∷ ds) h n = elim (either (b == 48)) [
  | inl z ↦
      let zero_first : b ≡ 48 = grind (arith, nat_tests) in
      let none : d ∷ ds ≡ [] = n zero_first in
      absurd cc
  | inr z ↦ rw z h
]

-- digits may stand in a word
digits_in_word : (ds : List ℕ) → list_all is_digit ds ≡ true → list_all is_word_byte ds ≡ true
digits_in_word [] h = refl
digits_in_word (d ∷ ds) h = elim (either (is_digit d)) [
  | inl t ↦
      let others : list_all is_digit ds ≡ true = rw t at h in
      let one : is_word_byte d ≡ true = second (is_letter d) (is_digit d) t in
      rw one (digits_in_word ds others)
  | inr f ↦ let none : false ≡ true = rw f at h in absurd cc
]
  where
    second : (x y : Bool) → y ≡ true → (x || y) ≡ true
    second true y e = refl
    second false y e = e

-- what goes on with a letter, a digit or `_` goes on as a word
goes_on_as : (bs : List ℕ) → goes_on bs ≡ passes_next is_word_byte bs
goes_on_as [] = refl
goes_on_as (b ∷ bs) = refl

-- a number that begins is one
pub number_is : (b : ℕ) (bs : List ℕ) (t : Token) (k : ℕ) → is_digit b ≡ true → number_at b bs ≡ token t k
    → IsToken b bs t k
number_is b bs t k h e =
    let more = run_length is_word_byte bs in
    let value = value_after 0 (b ∷ take more bs) in
    let g = number_tested (nat_lt greatest_number value) (digits_follow b (take more bs)) value k more t e in
    let d = follow_is b (take more bs) g.1 in
    let test : nat_lt greatest_number value ≡ false = g.0 in
    let small : value ≤ greatest_number = grind (arith, nat_tests) in
    let off : goes_on (drop more bs) ≡ false = goes_on_as (drop more bs) ∙ run_stops is_word_byte bs in
    let shown : IsToken b bs (number value) more = (run_within is_word_byte bs, ((h, d.0, d.1), refl, small), off) in
    subst (λ (n : ℕ). IsToken b bs t n) g.3 (subst (λ (u : Token). IsToken b bs u more) g.2 shown)

-- where bytes are a numeral that stands off, this number begins
pub number_as_long : (b : ℕ) (front further : List ℕ) (n : ℕ) → Spells (b ∷ front) (number n) → goes_on further ≡ false
    → BeginsAsLong b (front ++ further) (length front) (number n)
number_as_long b front further n h off =
    let more : run_length is_word_byte (front ++ further) ≡ length front =
    run_exact is_word_byte front further (digits_in_word front h.0.1) (sym (goes_on_as further) ∙ off) in
    let whole : take (length front) (front ++ further) ≡ front = take_at front further (length front) refl in
    let small : nat_lt greatest_number n ≡ false = grind (arith, nat_tests) in (
      number n,
      length front,
      begins_number b (front ++ further) h.0.0 ∙ rw (more, whole, h.1, small, follow_as b front h.0.1 h.0.2) refl,
      omega arith,
      λ e. refl,
    )

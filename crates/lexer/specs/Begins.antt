-- What begins at a byte of a file: the longest token that fits, or what separates tokens.
use Rattle.std.specs.Prelude.{ℕ, ◌+◌, ◌-◌, ◌*◌, Bool, true, false, ◌&&◌, ◌||◌, ◌==◌, nat_le}
use Rattle.std.specs.Prelude.{nat_lt, not, List, [], ◌∷◌, length, take, take_while, fold}
use Rattle.std.specs.Prelude.{Option, Some, None, if◌then◌else◌}
use Rattle.std.specs.List.{list_all}
use Rattle.lexer.specs.Characters.{newline}
use Rattle.lexer.specs.Tokens.{Token, number, string, mark}
use Rattle.lexer.specs.Words.{word_or_name}
use Rattle.lexer.specs.declared.token.Mark.{Mark}
use Rattle.lexer.specs.Marks.{pair_mark, punctuation, operator}
use Rattle.lexer.specs.Strings.{is_quote, body_length, unescaped}

-- what begins at a byte; a count is that of the further bytes that belong to it
pub data Begins : Type 0 where
  space : Begins
  line_end : Begins
  comment : ℕ → Begins
  token : Token → ℕ → Begins
  -- no token fits: a fault of the file
  nothing : Begins

-- `0` to `9`
abbrev pub is_digit : ℕ → Bool
is_digit b = nat_le 48 b && nat_le b 57

-- a letter or `_`
abbrev pub is_letter : ℕ → Bool
is_letter b = (nat_le 97 b && nat_le b 122) || (nat_le 65 b && nat_le b 90) || b == 95

-- what a name or a word goes on with: a letter, `_` or a digit
abbrev pub is_word_byte : ℕ → Bool
is_word_byte b = is_letter b || is_digit b

-- how many bytes from the front on pass
abbrev pub run_length : (ℕ → Bool) → List ℕ → ℕ
run_length p bs = length (take_while p bs)

-- a name or a word: a letter or `_`, then letters, digits and `_`
abbrev pub name_at : ℕ → List ℕ → Begins
name_at b bs =
    token (word_or_name (b ∷ take (run_length is_word_byte bs) bs)) (run_length is_word_byte bs)

-- the greatest number that can be written, 2^63 - 1 (own choice: Starlark's numbers have no limit)
abbrev pub greatest_number : ℕ
greatest_number = 9223372036854775807

-- the number that digits spell, after the value of those before
abbrev pub value_after : ℕ → List ℕ → ℕ
value_after value digits = fold (λ v d. v * 10 + (d - 48)) value digits

-- whether bytes follow a number's first digit as more digits: none follow `0`, which stands alone
abbrev pub digits_follow : ℕ → List ℕ → Bool
digits_follow b [] = true
digits_follow b (c ∷ bs) = not (b == 48) && list_all is_digit (c ∷ bs)

-- the number that a digit spells with the bytes behind it, if it is one
abbrev pub number_of : ℕ → List ℕ → Option ℕ
number_of b bs =
    let value = value_after 0 (b ∷ bs) in
    if nat_lt greatest_number value || not (digits_follow b bs) then None else Some value

-- the number of so many further bytes, where these spell one
abbrev pub number_token : ℕ → Option ℕ → Begins
number_token more None = nothing
number_token more (Some value) = token (number value) more

-- a number: `0`, or a digit 1 to 9 and more digits; no letter, digit or `_` may follow it, so all
-- of these that follow are to be its further digits, or nothing begins
abbrev pub number_at : ℕ → List ℕ → Begins
number_at b bs =
    let more = run_length is_word_byte bs in number_token more (number_of b (take more bs))

-- the string whose body has so many bytes, with its escapes read; the closing quote is one further
-- byte. Where the body has no length the string is not closed, or has an escape that is none, and
-- nothing begins
abbrev pub string_of : List ℕ → Option ℕ → Begins
string_of bs None = nothing
string_of bs (Some n) = token (string (unescaped (take n bs))) (n + 1)

-- a string behind this quote, up to the next one of the same kind with no backslash before it that
-- escapes it (Starlark specification, "String literals")
abbrev pub string_at : ℕ → List ℕ → Begins
string_at quote bs = string_of bs (body_length quote false bs)

-- the mark of two bytes, where one fits
abbrev pub pair_at : ℕ → List ℕ → Option Mark
pair_at b [] = None
pair_at b (c ∷ bs) = pair_mark b c

-- an operator or a punctuation mark: of two bytes where these are one, else of one byte
abbrev pub mark_at : ℕ → List ℕ → Begins
mark_at b bs = elim (pair_at b bs) [
  | Some m ↦ token (mark m) 1
  | None ↦ elim (punctuation b) [
    | Some m ↦ token (mark m) 0
    | None ↦ elim (operator b) [
      | Some m ↦ token (mark m) 0
      | None ↦ nothing
    ]
  ]
]

-- what begins at byte `b`, before the bytes `bs`
unfoldable pub begins : ℕ → List ℕ → Begins
begins b bs =
    if b == 32 then space else
    if b == newline then line_end else
    if b == 35 then comment (run_length (λ c. not (c == newline)) bs) else
    if is_quote b then string_at b bs else
    if is_digit b then number_at b bs else
    if is_letter b then name_at b bs else
    mark_at b bs

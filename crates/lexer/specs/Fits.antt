-- How each token is spelled, and which bytes at the front of a text are one: said of the bytes, as
-- a user writes them. (Starlark specification, "Lexical elements"; docs/PROFILE.md, "Tokens",
-- "Reserved words" and "Strings".)
use Rattle.std.specs.Prelude.{◌≡◌, ◌≢◌, ◌⊎◌, ℕ, ◌+◌, ◌≤◌, Bool, true, false, List, [], ◌∷◌, ◌++◌}
use Rattle.std.specs.Prelude.{length, take, drop, map, flat_map, codes}
use Rattle.std.specs.List.{AllByRecursion, list_all}
use Rattle.lexer.specs.declared.token.Word.{Word}
use Rattle.lexer.specs.declared.token.Word.TheVariants.{And, Break, Continue, Def, Elif, Else, For}
use Rattle.lexer.specs.declared.token.Word.TheVariants.{If, In, Load, Not, Or, Pass, Return}
use Rattle.lexer.specs.declared.token.Word.TheVariants.{Reserved}
use Rattle.lexer.specs.declared.token.Mark.{Mark}
use Rattle.lexer.specs.declared.token.Mark.TheVariants.{OpenParen, CloseParen, OpenBracket}
use Rattle.lexer.specs.declared.token.Mark.TheVariants.{CloseBracket, OpenBrace, CloseBrace, Comma}
use Rattle.lexer.specs.declared.token.Mark.TheVariants.{Colon, Dot, Assign, AddAssign, Equal}
use Rattle.lexer.specs.declared.token.Mark.TheVariants.{NotEqual, Less, Greater, LessEqual}
use Rattle.lexer.specs.declared.token.Mark.TheVariants.{GreaterEqual, Plus, Minus, Star}
use Rattle.lexer.specs.declared.token.Mark.TheVariants.{FloorDivide, Percent}
use Rattle.lexer.specs.Characters.{newline}
use Rattle.lexer.specs.Tokens.{Token, name, number, string, word, mark}
use Rattle.lexer.specs.Strings.{backslash, is_quote, is_escape, escape_meaning}
use Rattle.lexer.specs.Begins.{is_digit, is_letter, is_word_byte, greatest_number, value_after}

-- how a word of the language is written; a reserved word stands for each of those that no form of
-- the language has
abbrev pub texts_of : Word → List (List ℕ)
texts_of And = codes "and" ∷ []
texts_of Break = codes "break" ∷ []
texts_of Continue = codes "continue" ∷ []
texts_of Def = codes "def" ∷ []
texts_of Elif = codes "elif" ∷ []
texts_of Else = codes "else" ∷ []
texts_of For = codes "for" ∷ []
texts_of If = codes "if" ∷ []
texts_of In = codes "in" ∷ []
texts_of Load = codes "load" ∷ []
texts_of Not = codes "not" ∷ []
texts_of Or = codes "or" ∷ []
texts_of Pass = codes "pass" ∷ []
texts_of Return = codes "return" ∷ []
texts_of Reserved =
    codes "as" ∷ codes "assert" ∷ codes "async" ∷ codes "await" ∷ codes "class" ∷ codes "del"
    ∷ codes "except" ∷ codes "finally" ∷ codes "from" ∷ codes "global" ∷ codes "import"
    ∷ codes "is" ∷ codes "lambda" ∷ codes "nonlocal" ∷ codes "raise" ∷ codes "try"
    ∷ codes "while" ∷ codes "with" ∷ codes "yield" ∷ []

-- how a mark is written
abbrev pub text_of : Mark → List ℕ
text_of OpenParen = codes "("
text_of CloseParen = codes ")"
text_of OpenBracket = codes "["
text_of CloseBracket = codes "]"
text_of OpenBrace = codes "{"
text_of CloseBrace = codes "}"
text_of Comma = codes ","
text_of Colon = codes ":"
text_of Dot = codes "."
text_of Assign = codes "="
text_of AddAssign = codes "+="
text_of Equal = codes "=="
text_of NotEqual = codes "!="
text_of Less = codes "<"
text_of Greater = codes ">"
text_of LessEqual = codes "<="
text_of GreaterEqual = codes ">="
text_of Plus = codes "+"
text_of Minus = codes "-"
text_of Star = codes "*"
text_of FloorDivide = codes "//"
text_of Percent = codes "%"

-- a text is one of these
abbrev pub IsOneOf : List ℕ → List (List ℕ) → Type 0
IsOneOf bs [] = ⊥
IsOneOf bs (text ∷ texts) = (bs ≡ text) ⊎ IsOneOf bs texts

-- a letter or `_`, and then letters, digits and `_`
abbrev pub IsWordLike : List ℕ → Type 0
IsWordLike [] = ⊥
IsWordLike (b ∷ bs) = (is_letter b ≡ true) × (list_all is_word_byte bs ≡ true)

-- digits, of which the first is 0 only where it stands alone
abbrev pub IsNumeral : List ℕ → Type 0
IsNumeral [] = ⊥
IsNumeral (b ∷ bs) = (is_digit b ≡ true) × (list_all is_digit bs ≡ true) × (b ≡ 48 → bs ≡ [])

-- a piece of a string's body: a byte that stands for itself, or a backslash with the byte behind it
pub data Piece : Type 0 where
  plain : ℕ → Piece
  escape : ℕ → Piece

-- how a piece is written
abbrev pub piece_text : Piece → List ℕ
piece_text (plain b) = b ∷ []
piece_text (escape b) = backslash ∷ b ∷ []

-- the byte that a piece stands for
abbrev pub piece_meaning : Piece → ℕ
piece_meaning (plain b) = b
piece_meaning (escape b) = escape_meaning b

-- what may stand between two quotes of this kind: an escape, or a byte that is no such quote, no
-- end of a line and no backslash
abbrev pub IsPiece : ℕ → Piece → Type 0
IsPiece quote (plain b) = (b ≢ quote) × (b ≢ newline) × (b ≢ backslash)
IsPiece quote (escape b) = is_escape b ≡ true

-- a quote, pieces and the same quote
abbrev pub in_quotes : ℕ → List Piece → List ℕ
in_quotes quote pieces = quote ∷ flat_map piece_text pieces ++ quote ∷ []

-- bytes spell a token
abbrev pub Spells : List ℕ → Token → Type 0
Spells bs (name w) = (bs ≡ w) × IsWordLike w × ((k : Word) → ¬ IsOneOf w (texts_of k))
Spells bs (number n) = IsNumeral bs × (value_after 0 bs ≡ n) × (n ≤ greatest_number)
Spells bs (string s) =
    (quote : ℕ) × (pieces : List Piece) × (is_quote quote ≡ true)
    × AllByRecursion (IsPiece quote) pieces
    × (bs ≡ in_quotes quote pieces) × (s ≡ map piece_meaning pieces)
Spells bs (word k) = IsOneOf bs (texts_of k)
Spells bs (mark m) = bs ≡ text_of m

-- whether bytes go on with a letter, a digit or `_`
abbrev pub goes_on : List ℕ → Bool
goes_on [] = false
goes_on (b ∷ bs) = is_word_byte b

-- a number isn't followed directly by a letter, a digit or `_`
abbrev pub StandsOff : Token → List ℕ → Type 0
StandsOff (number n) further = goes_on further ≡ false
StandsOff t further = Unit {0}

-- the first n bytes of a text can be read as a token
abbrev pub Fits : List ℕ → ℕ → Token → Type 0
Fits text n t = (n ≤ length text) × Spells (take n text) t × StandsOff t (drop n text)

-- they can, and no more bytes from the front of the text can be read as any token
abbrev pub IsLongest : List ℕ → ℕ → Token → Type 0
IsLongest text n t = Fits text n t × ((m : ℕ) (u : Token) → Fits text m u → m ≤ n)

-- bytes are at the end of the text or of a line
abbrev pub AtLineEnd : List ℕ → Type 0
AtLineEnd [] = Unit {0}
AtLineEnd (b ∷ bs) = b ≡ newline

-- the first n bytes of a text are a comment: `#`, and what follows it on its line
abbrev pub IsComment : List ℕ → ℕ → Type 0
IsComment text n =
    (body : List ℕ) × (further : List ℕ) × (text ≡ 35 ∷ body ++ further)
    × AllByRecursion (λ b. b ≢ newline) body
    × AtLineEnd further × (n ≡ length body + 1)

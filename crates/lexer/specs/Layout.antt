-- Logical lines and blocks: brackets and columns, tested together in the order of the text.
--
-- The Starlark specification ("Lexical elements": indentation, newlines) gives the rules; that the
-- columns of a file's first line and of each block are tested in a pass of their own, and the two
-- limits, are this project's own choice.
use Rattle.std.specs.Prelude.{ℕ, ◌+◌, Bool, true, false, not, ◌&&◌, ◌==◌, nat_le, nat_lt, List, []}
use Rattle.std.specs.Prelude.{◌∷◌, length, Option, Some, None, ok_or, Result, Ok, Err}
use Rattle.std.specs.Prelude.{if◌then◌else◌}
use Rattle.lexer.specs.declared.token.Mark.{Mark}
use Rattle.lexer.specs.declared.token.Mark.TheVariants.{OpenParen, CloseParen, OpenBracket}
use Rattle.lexer.specs.declared.token.Mark.TheVariants.{CloseBracket, OpenBrace, CloseBrace, Colon}
use Rattle.lexer.specs.declared.layout.Bracket.{Bracket}
use Rattle.lexer.specs.declared.layout.Bracket.TheVariants.{Round, Square, Curly}
use Rattle.lexer.specs.declared.layout.Open.{Open}
use Rattle.lexer.specs.declared.layout.Layout.{Layout}
use Rattle.lexer.specs.Scan.{preceded}
use Rattle.lexer.specs.Tokens.{Token, Placed, mark}

infixl 10 ◌>>=◌
-- what follows a step, where that found no fault; a fault ends the pass
abbrev pub ◌>>=◌ : {A B : Type 0} → Result A ℕ → (A → Result B ℕ) → Result B ℕ
Ok a >>= f = f a
Err line >>= f = Err line

-- the bracket that a mark opens
abbrev pub opening : Mark → Option Bracket
opening OpenParen = Some Round
opening OpenBracket = Some Square
opening OpenBrace = Some Curly
opening _ = None

-- the bracket that a mark closes
abbrev pub closing : Mark → Option Bracket
closing CloseParen = Some Round
closing CloseBracket = Some Square
closing CloseBrace = Some Curly
closing _ = None

-- whether two brackets are of one kind, so that the one can close the other
abbrev pub same_bracket : Bracket → Bracket → Bool
same_bracket Round Round = true
same_bracket Square Square = true
same_bracket Curly Curly = true
same_bracket _ _ = false

-- at most 100 brackets are open at once
abbrev pub opened : List Open → Bracket → ℕ → Result (List Open) ℕ
opened unclosed bracket line =
    if nat_le 100 (length unclosed) then Err line else
    Ok (record { bracket = bracket; line = line } ∷ unclosed)

-- a closing bracket matches the innermost open one
abbrev pub closed : List Open → Bracket → ℕ → Result (List Open) ℕ
closed [] bracket line = Err line
closed (o ∷ unclosed) bracket line =
    if same_bracket o.bracket bracket then Ok unclosed else Err line

-- the open brackets, the innermost first, after a mark
abbrev pub after_mark : List Open → Mark → ℕ → Result (List Open) ℕ
after_mark unclosed m line = elim (opening m) [
  | Some bracket ↦ opened unclosed bracket line
  | None ↦ elim (closing m) [
    | Some bracket ↦ closed unclosed bracket line
    | None ↦ Ok unclosed
  ]
]

-- the same after a token, by the mark that it is
abbrev pub after_token : List Open → Option Mark → ℕ → Result (List Open) ℕ
after_token unclosed None line = Ok unclosed
after_token unclosed (Some m) line = after_mark unclosed m line

-- the columns of the open blocks, the innermost first, down to the one at this column; the top
-- level is at column 0
abbrev pub back_to : ℕ → List ℕ → Option (List ℕ)
back_to column [] = if column == 0 then Some [] else None
back_to column (c ∷ columns) =
    if column == c then Some (c ∷ columns) else
    if nat_lt column c then back_to column columns else
    None

-- the column of the innermost open block
abbrev pub innermost : List ℕ → ℕ
innermost [] = 0
innermost (c ∷ columns) = c

-- after a line that ends with `:` comes a deeper line, which opens a block; at most 32 blocks are
-- open at once. Where no deeper line comes, the fault is that of the line with the `:`
abbrev pub block_opened : Layout → ℕ → ℕ → Result (List ℕ) ℕ
block_opened s line column =
    if nat_le column (innermost s.columns) then Err s.first else
    if nat_le 32 (length s.columns) then Err line else
    Ok (column ∷ s.columns)

-- the columns of the open blocks once a logical line has begun; after a line without `:` it stands
-- at the column of that line, of an enclosing block or of the top level
abbrev pub columns_at : Layout → ℕ → ℕ → Result (List ℕ) ℕ
columns_at s line column =
    if s.head then block_opened s line column else ok_or (back_to column s.columns) line

-- whether no bracket is open: only then does the end of a line of the file end a logical line
abbrev pub nothing_open : List Open → Bool
nothing_open [] = true
nothing_open (o ∷ unclosed) = false

-- a token begins a logical line where no bracket is open and the token before stands on another
-- line
abbrev pub starts : Layout → ℕ → Bool
starts s line = nothing_open s.unclosed && not (line == s.last)

-- the layout once a token's logical line has begun
abbrev pub begun : Layout → ℕ → ℕ → Result Layout ℕ
begun s line column =
    if starts s line
    then (columns_at s line column >>= λ columns. Ok (record s { columns = columns; first = line }))
    else Ok s

-- whether the mark that a token is, if it is one, is a `:`, which at the end of a line announces a
-- block
abbrev pub is_colon : Option Mark → Bool
is_colon None = false
is_colon (Some Colon) = true
is_colon (Some _) = false

-- the layout after a token, by the mark that it is, its line and its column
unfoldable pub turn : Layout → Option Mark → ℕ → ℕ → Result Layout ℕ
turn s m line column =
    begun s line column >>= λ u. after_token u.unclosed m line >>= λ unclosed.
    Ok (record
    { unclosed = unclosed; columns = u.columns; head = is_colon m; first = u.first; last = line })

-- at the end of a text no bracket is open, and the last line doesn't end with `:`
abbrev pub ended : Layout → Result (List ℕ) ℕ
ended s = elim s.unclosed [
  | [] ↦ if s.head then Err s.first else Ok []
  | o ∷ unclosed ↦ Err o.line
]

-- before the first token
abbrev pub at_start : Layout
at_start = record { unclosed = []; columns = []; head = false; first = 0; last = 0 }

-- the mark that a token is
abbrev pub mark_of : Token → Option Mark
mark_of (mark m) = Some m
mark_of _ = None

-- the places, in the list of all tokens, of those that begin the logical lines, or the line of the
-- first fault
unfoldable pub line_starts : ℕ → Layout → List Placed → Result (List ℕ) ℕ
line_starts place s [] = ended s
line_starts place s (t ∷ ts) =
    turn s (mark_of t.token) t.line t.column >>= λ after.
    preceded (if starts s t.line then place ∷ [] else []) (line_starts (place + 1) after ts)

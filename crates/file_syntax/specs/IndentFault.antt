-- Where the first fault of brackets and columns of a text stands, said of its tokens and of the
-- logical lines that they make. (Starlark specification, "Lexical elements": indentation, newlines;
-- the two limits, and on which line such a fault is, are this project's own; docs/PROFILE.md,
-- "Brackets" and "Columns and blocks".)
use Rattle.std.specs.Prelude.{◌≡◌, ◌≢◌, ℕ, ◌<◌, ◌≤◌, Bool, true, false, List, [], ◌∷◌, ◌++◌, length}
use Rattle.std.specs.Prelude.{Option, Some, None}
use Rattle.std.specs.List.{AllByRecursion}
use Rattle.lexer.specs.declared.token.Mark.{Mark}
use Rattle.lexer.specs.declared.layout.Bracket.{Bracket}
use Rattle.lexer.specs.Tokens.{Placed}
use Rattle.lexer.specs.Layout.{opening, closing, innermost, mark_of}
use Rattle.lexer.specs.LaidOut.{IsLogicalLine, OnOwnLines, BlocksBehind, first_line, first_column}
use Rattle.lexer.specs.LaidOut.{last_line, ends_with_colon, joined}

-- the last of some logical lines, or `before` where there is none
abbrev pub last_of : List Placed → List (List Placed) → List Placed
last_of before [] = before
last_of before (line ∷ lines) = last_of line lines

-- lines stand in blocks, where those at these columns are open before them, and the line before
-- ends with `:` or not; behind them the blocks at the columns `after` are open
abbrev pub BlocksAfter : List ℕ → Bool → List (List Placed) → List ℕ → Type 0
BlocksAfter blocks head [] after = after ≡ blocks
BlocksAfter blocks head (line ∷ lines) after =
    (kept : List ℕ) × BlocksBehind head (first_column line) blocks kept
    × BlocksAfter kept (ends_with_colon false line) lines after

-- these are the first logical lines of a text, whole and without a fault, and behind them the
-- blocks at these columns are open
pub record AreFirstLines (lines : List (List Placed)) (blocks : List ℕ) : Type 0 where
  pub logical : AllByRecursion IsLogicalLine lines
  pub apart : OnOwnLines lines
  pub nested : BlocksAfter [] false lines blocks

-- a bracket that is open: of which kind it is, and on which line it stands
pub record OpenBracket : Type 0 where
  pub kind : Bracket
  pub line : ℕ

-- the open brackets, the innermost first, before and behind what opens a bracket on this line,
-- closes one, or does neither: at most 100 are open at once, and what closes one is of the kind of
-- the innermost
abbrev pub OpenChanges : Option Bracket → Option Bracket → ℕ
    → List OpenBracket → List OpenBracket → Type 0
OpenChanges (Some opens) closes line before after =
    (length before < 100) × (after ≡ record { kind = opens; line = line } ∷ before)
OpenChanges None (Some closes) line before after =
    (at : ℕ) × (before ≡ record { kind = closes; line = at } ∷ after)
OpenChanges None None line before after = after ≡ before

-- the same before and behind a token, by the mark that it is
abbrev pub OpenBehindMark : Option Mark → ℕ → List OpenBracket → List OpenBracket → Type 0
OpenBehindMark None line before after = after ≡ before
OpenBehindMark (Some m) line before after =
    OpenChanges (opening m) (closing m) line before after

-- the same before and behind some tokens of a logical line, where the token before them stands on
-- this line of the file. Where no bracket is open a logical line goes on only on the same line of
-- the file
abbrev pub OpenBehind : List OpenBracket → ℕ → List Placed → List OpenBracket → Type 0
OpenBehind unclosed line [] after = after ≡ unclosed
OpenBehind unclosed line (t ∷ ts) after =
    (unclosed ≡ [] → t.line ≡ line)
    × ((kept : List OpenBracket) × OpenBehindMark (mark_of t.token) t.line unclosed kept
    × OpenBehind kept t.line ts after)

-- what opens a bracket is the 101st that is open, or what closes one doesn't match the innermost
-- open one
abbrev pub MissesBrackets : Option Bracket → Option Bracket → List OpenBracket → Type 0
MissesBrackets (Some opens) closes unclosed = 100 ≤ length unclosed
MissesBrackets None (Some closes) unclosed =
    (at : ℕ) (others : List OpenBracket) → unclosed ≢ record { kind = closes; line = at } ∷ others
MissesBrackets None None unclosed = ⊥

-- a token, by the mark that it is, is a bracket that may not stand where these are open
abbrev pub IsBracketFault : Option Mark → List OpenBracket → Type 0
IsBracketFault None unclosed = ⊥
IsBracketFault (Some m) unclosed = MissesBrackets (opening m) (closing m) unclosed

-- the logical line of which these are the first tokens begins behind these lines as it may: on a
-- line of the file of its own, and at a column that is allowed there
abbrev pub BeginsWell : List (List Placed) → List ℕ → List Placed → Type 0
BeginsWell lines blocks tokens =
    (first_line tokens ≢ last_line 0 (last_of [] lines))
    × ((after : List ℕ)
    × BlocksBehind (ends_with_colon false (last_of [] lines)) (first_column tokens) blocks after)

-- a token that begins a logical line stands at a wrong column behind the line before, where these
-- blocks are open; the fault is on line n
pub data IsColumnFault (before : List Placed) (blocks : List ℕ) (t : Placed) (n : ℕ) : Type 0 where
  -- the line before ends with `:` and no deeper one follows: it is itself the fault
  not_deeper : ends_with_colon false before ≡ true → t.column ≤ innermost blocks
      → n ≡ first_line before → IsColumnFault before blocks t n
  -- this line opens the 33rd block
  too_deep : ends_with_colon false before ≡ true → innermost blocks < t.column
      → 32 ≤ length blocks → n ≡ t.line → IsColumnFault before blocks t n
  -- this line stands at the column of no open block, nor of the top level
  at_no_block : ends_with_colon false before ≡ false
      → ((after : List ℕ) → ¬ BlocksBehind false t.column blocks after)
      → n ≡ t.line → IsColumnFault before blocks t n

-- the first fault of brackets and columns of these tokens is on line n: all is well before it
pub data IsIndentFault (ts : List Placed) (n : ℕ) : Type 0 where
  -- behind whole logical lines comes a token on another line of the file, at a wrong column
  wrong_column : (lines : List (List Placed)) (blocks : List ℕ) (t : Placed) (behind : List Placed)
      → joined lines ++ t ∷ behind ≡ ts → AreFirstLines lines blocks
      → t.line ≢ last_line 0 (last_of [] lines) → IsColumnFault (last_of [] lines) blocks t n
      → IsIndentFault ts n
  -- behind whole logical lines, and `front` at the beginning of the next one, comes a bracket of
  -- the same logical line that may not stand there
  wrong_bracket : (lines : List (List Placed)) (blocks : List ℕ)
      (front : List Placed) (t : Placed) (behind : List Placed) (unclosed : List OpenBracket)
      → joined lines ++ (front ++ t ∷ behind) ≡ ts → AreFirstLines lines blocks
      → BeginsWell lines blocks (front ++ t ∷ [])
      → OpenBehind [] (first_line (front ++ t ∷ [])) front unclosed
      → (unclosed ≡ [] → t.line ≡ last_line (first_line (front ++ t ∷ [])) front)
      → IsBracketFault (mark_of t.token) unclosed → n ≡ t.line → IsIndentFault ts n
  -- the text ends in a logical line with open brackets: the innermost is the fault
  never_closed : (lines : List (List Placed)) (blocks : List ℕ)
      (front : List Placed) (o : OpenBracket) (unclosed : List OpenBracket)
      → joined lines ++ front ≡ ts → AreFirstLines lines blocks → BeginsWell lines blocks front
      → OpenBehind [] (first_line front) front (o ∷ unclosed) → n ≡ o.line → IsIndentFault ts n
  -- the text ends with a logical line that ends with `:`: it is the fault
  no_block : (lines : List (List Placed)) (blocks : List ℕ)
      → joined lines ≡ ts → AreFirstLines lines blocks
      → ends_with_colon false (last_of [] lines) ≡ true → n ≡ first_line (last_of [] lines)
      → IsIndentFault ts n

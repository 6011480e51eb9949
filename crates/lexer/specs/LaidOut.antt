-- Which logical lines a file's tokens make, said of the lines themselves: no order of work, and no
-- state of a reader.
--
-- A logical line is what one statement, or the head of one, takes: mostly one line of the file.
-- Inside brackets it goes on over the ends of lines. How far a line is indented says to which block
-- it belongs (Starlark specification, "Lexical elements": indentation, newlines).
use Rattle.std.specs.Prelude.{◌≡◌, ◌≢◌, ℕ, ◌<◌, Bool, true, false, List, [], ◌∷◌, ◌++◌, length}
use Rattle.std.specs.Prelude.{Option, Some, None}
use Rattle.std.specs.List.{AllByRecursion, AllPass}
use Rattle.lexer.specs.declared.token.Mark.{Mark}
use Rattle.lexer.specs.declared.layout.Bracket.{Bracket}
use Rattle.lexer.specs.Characters.{is_character}
use Rattle.lexer.specs.Layout.{opening, closing, innermost, is_colon, mark_of}
use Rattle.lexer.specs.Parts.{IsTokens}
use Rattle.lexer.specs.Tokens.{Placed}

-- the open brackets, the innermost first, before and behind what opens a bracket, closes one, or
-- does neither: at most 100 are open at once, and what closes one is of the kind of the innermost
abbrev pub BracketChanges : Option Bracket → Option Bracket → List Bracket → List Bracket → Type 0
BracketChanges (Some opens) closes before after = (length before < 100) × (after ≡ opens ∷ before)
BracketChanges None (Some closes) before after = before ≡ closes ∷ after
BracketChanges None None before after = after ≡ before

-- the open brackets before and behind a token, by the mark that it is
abbrev pub BracketsBehind : Option Mark → List Bracket → List Bracket → Type 0
BracketsBehind None before after = after ≡ before
BracketsBehind (Some m) before after = BracketChanges (opening m) (closing m) before after

-- how a logical line goes on, where brackets are open and the token before stands on this line of
-- the file: inside brackets anywhere, outside of them on the same line of the file. Where it ends
-- no bracket is open
abbrev pub GoesOn : List Bracket → ℕ → List Placed → Type 0
GoesOn unclosed line [] = unclosed ≡ []
GoesOn unclosed line (t ∷ ts) =
    (unclosed ≡ [] → t.line ≡ line)
    × ((after : List Bracket) × BracketsBehind (mark_of t.token) unclosed after
    × GoesOn after t.line ts)

-- a logical line has a token, and its brackets match
abbrev pub IsLogicalLine : List Placed → Type 0
IsLogicalLine [] = ⊥
IsLogicalLine (t ∷ ts) = GoesOn [] t.line (t ∷ ts)

-- the line of the file on which a logical line begins
abbrev pub first_line : List Placed → ℕ
first_line [] = 0
first_line (t ∷ ts) = t.line

-- the column at which it begins
abbrev pub first_column : List Placed → ℕ
first_column [] = 0
first_column (t ∷ ts) = t.column

-- the line of the file on which the last of some tokens stands, or `before` where there is none
abbrev pub last_line : ℕ → List Placed → ℕ
last_line before [] = before
last_line before (t ∷ ts) = last_line t.line ts

-- whether the last of some tokens is a `:`, or `before` where there is none
abbrev pub ends_with_colon : Bool → List Placed → Bool
ends_with_colon before [] = before
ends_with_colon before (t ∷ ts) = ends_with_colon (is_colon (mark_of t.token)) ts

-- the first of some logical lines, if there is one, doesn't begin on this line of the file
abbrev pub BeginsOff : ℕ → List (List Placed) → Type 0
BeginsOff n [] = Unit {0}
BeginsOff n (line ∷ lines) = first_line line ≢ n

-- no logical line begins on the line of the file on which the one before ends
abbrev pub OnOwnLines : List (List Placed) → Type 0
OnOwnLines [] = Unit {0}
OnOwnLines (line ∷ lines) = BeginsOff (last_line 0 line) lines × OnOwnLines lines

-- the columns of the open blocks, the innermost first, before and behind the beginning of a line at
-- this column. Behind a line that ends with `:` it opens a block, which is deeper than the one
-- around it, and at most 32 are open. Behind any other line it stands at the column of an open
-- block or of the top level, and closes the deeper blocks
abbrev pub BlocksBehind : Bool → ℕ → List ℕ → List ℕ → Type 0
BlocksBehind true column before after =
    (innermost before < column) × (length before < 32) × (after ≡ column ∷ before)
BlocksBehind false column before after =
    (innermost after ≡ column)
    × ((deeper : List ℕ) × (before ≡ deeper ++ after) × AllByRecursion (λ c. column < c) deeper)

-- lines stand in blocks, where those at these columns are open, and the line before ends with `:`
-- or not; the last line doesn't end with `:`
abbrev pub InBlocks : List ℕ → Bool → List (List Placed) → Type 0
InBlocks blocks head [] = head ≡ false
InBlocks blocks head (line ∷ lines) =
    (after : List ℕ) × BlocksBehind head (first_column line) blocks after
    × InBlocks after (ends_with_colon false line) lines

-- lines one after the other
abbrev pub joined : List (List Placed) → List Placed
joined [] = []
joined (line ∷ lines) = line ++ joined lines

-- the tokens of a file make these logical lines. The first line stands at column 0, outside of all
-- blocks
pub record IsLaidOut (ts : List Placed) (lines : List (List Placed)) : Type 0 where
  pub whole : joined lines ≡ ts
  pub logical : AllByRecursion IsLogicalLine lines
  pub apart : OnOwnLines lines
  pub nested : InBlocks [] false lines

-- a text reads as these logical lines: it is of characters of the profile, and its tokens make the
-- lines
pub record IsReading (text : List ℕ) (lines : List (List Placed)) : Type 0 where
  pub characters : AllPass is_character text
  pub tokens : List Placed
  pub read : IsTokens text tokens
  pub laid_out : IsLaidOut tokens lines

-- Where the scanner stands, and what is left to it. (This project's own.)
use Rattle.std.specs.Prelude.{ℕ, ◌+◌, ◌-◌, ◌≤◌, List, length, map, drop, Result}
use Rattle.lexer.specs.declared.scan.Cursor.{Cursor}
use Rattle.lexer.specs.declared.token.Token as found
use Rattle.lexer.specs.Tokens.{Placed}
use Rattle.lexer.specs.Seen.{seen}
use Rattle.lexer.specs.Scan.{scan, preceded}

-- a cursor stands in the text, behind the beginning of its line
pub record IsCursor (text : List ℕ) (c : Cursor) : Type 0 where
  pub within : c.at ≤ length text
  pub on_line : c.line_start ≤ c.at
  pub lines : c.line ≤ c.at + 1

-- the tokens found so far, and those of the text from the cursor on
abbrev pub left : List ℕ → Cursor → List found.Token → Result (List Placed) ℕ
left text c ts =
    preceded (map (seen text) ts) (scan 0 c.line (c.at - c.line_start) (drop c.at text))

-- The tree of a file: its logical lines in blocks, by their columns.
use Rattle.std.specs.Prelude.{◌≡◌, ℕ, suc, ◌≤◌, Bool, true, false, List, [], ◌∷◌, map}
use Rattle.lexer.specs.Tokens.{Token, Placed}
use Rattle.grammar.specs.Statements.{Form, IsForm, form_spelled}
use Rattle.grammar.specs.Depth.{form_depth}
use Rattle.grammar.specs.Places.{Place, stands, inside_of, follows, takes_else, early_enough}
use Rattle.grammar.specs.Places.{still_early, opens}

-- the lines of a block, each with the number of its first line: a line without a block, or one with
-- its block and the column of that
pub data Block : Type 0 where
  no_lines : Block
  plain_line : ℕ → Form → Block → Block
  head_line : ℕ → Form → ℕ → Block → Block → Block

-- a logical line, by its first line, its column and its tokens
pub record Laid : Type 0 where
  pub line : ℕ
  pub column : ℕ
  pub tokens : List Token

-- whether a block has a line, as the block of a head must
abbrev pub some_lines : Block → Bool
some_lines no_lines = false
some_lines _ = true

-- the lines of a block at a column, before others (Starlark specification, "Lexical elements":
-- indentation)
abbrev pub block_laid : ℕ → Block → List Laid → List Laid
block_laid c no_lines ls = ls
block_laid c (plain_line n f b) ls =
    record { line = n; column = c; tokens = form_spelled f } ∷ block_laid c b ls
block_laid c (head_line n f d inner b) ls =
    record { line = n; column = c; tokens = form_spelled f }
    ∷ block_laid d inner (block_laid c b ls)

-- a form in its place, of which no expression is more than 200 deep
pub record Fits (p : Place) (after early : Bool) (f : Form) : Type 0 where
  pub is_form : IsForm f
  pub stands_there : stands p f ≡ true
  pub follows_there : follows after f ≡ true
  pub early_there : early_enough early f ≡ true
  pub not_deep : form_depth f ≤ 200

-- each line of a block fits, and a block that is opened is deeper and has a line
abbrev pub IsBlock : Place → Bool → Bool → ℕ → Block → Type 0
IsBlock p after early c no_lines = Unit {0}
IsBlock p after early c (plain_line n f b) =
    Fits p after early f × (opens f ≡ false)
    × IsBlock p (takes_else f) (still_early early f) c b
IsBlock p after early c (head_line n f d inner b) =
    Fits p after early f × (opens f ≡ true) × (suc c ≤ d) × (some_lines inner ≡ true)
    × IsBlock (inside_of p f) false false d inner
    × IsBlock p (takes_else f) (still_early early f) c b

-- a logical line from its tokens with their places
abbrev pub laid : List Placed → Laid
laid [] = record { line = 0; column = 0; tokens = [] }
laid (t ∷ ts) = record { line = t.line; column = t.column; tokens = map (λ t. t.token) (t ∷ ts) }

-- these logical lines are those of this tree; the top level is at column 0
pub record SpellsFile (p : Place) (lines : List (List Placed)) (b : Block) : Type 0 where
  pub is_block : IsBlock p false true 0 b
  pub whole : map laid lines ≡ block_laid 0 b []

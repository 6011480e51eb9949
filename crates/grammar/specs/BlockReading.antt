-- Reading the logical lines of a file into its tree, from the first line to the last. (Starlark
-- specification, "Grammar reference"; the limit of depth is this project's own; docs/PROFILE.md,
-- "Columns and blocks" and "Statements".)
--
-- A line is refused that has no form, or whose form may not stand where it does, or that has an
-- expression which is too deep. What may stand where is said of the lines before it alone, so the
-- line that is refused is the first such line.
use Rattle.std.specs.Prelude.{ℕ, Bool, true, false, ◌&&◌, ◌==◌, nat_le, nat_lt, List, [], ◌∷◌, map}
use Rattle.std.specs.Prelude.{Option, Some, None, Result, Ok, Err}
use Rattle.lexer.specs.Tokens.{Token}
use Rattle.grammar.specs.Statements.{Form}
use Rattle.grammar.specs.FormReading.{form_reads}
use Rattle.grammar.specs.Depth.{form_depth}
use Rattle.grammar.specs.Places.{Place, stands, inside_of, follows, takes_else, early_enough}
use Rattle.grammar.specs.Places.{still_early, opens}
use Rattle.grammar.specs.Blocks.{Block, no_lines, plain_line, head_line, Laid}

-- an open block, as the next line of it finds it: its column, where it stands, whether the line
-- before in it was an `if` or `elif`, and whether only `load`s and strings alone came before in the
-- file
pub record Around : Type 0 where
  pub column : ℕ
  pub place : Place
  pub after : Bool
  pub early : Bool

-- the top level of a file
abbrev pub top_level : Place → Around
top_level p = record { column = 0; place = p; after = false; early = true }

-- a block behind a line in it
abbrev pub behind : Around → Form → Around
behind o f = record
    { column = o.column; place = o.place; after = takes_else f; early = still_early o.early f }

-- the block that a head in a block opens at a column
abbrev pub inside : Around → Form → ℕ → Around
inside o f column =
    record { column = column; place = inside_of o.place f; after = false; early = false }

-- whether a form may stand as the next line of a block, and no expression in it is more than 200
-- deep
abbrev pub fits : Around → Form → Bool
fits o f =
    stands o.place f && (follows o.after f && (early_enough o.early f && nat_le (form_depth f) 200))

-- a form, where there is one and it may stand as the next line of a block
abbrev pub if_fits : Around → Option Form → Option Form
if_fits o None = None
if_fits o (Some f) = elim (fits o f) [ true ↦ Some f | false ↦ None ]

-- the form of a line, where it has one that may stand there
abbrev pub form_there : Around → List Token → Option Form
form_there o ts = if_fits o (form_reads ts)

-- the column of the block behind a head, which is that of the next line. A next line that is no
-- deeper is refused, and where none comes the head is; the layout has seen that a deeper line comes
abbrev pub block_column : Laid → List Laid → Result ℕ ℕ
block_column head [] = Err head.line
block_column head (l ∷ ls) =
    elim (nat_lt head.column l.column) [ true ↦ Ok l.column | false ↦ Err l.line ]

-- what a line and those behind it add to the open blocks, innermost first, from what those behind
-- it add: where the innermost block has ended before the line, nothing more to that one
abbrev pub ended : Result (List Block) ℕ → Result (List Block) ℕ
ended (Err n) = Err n
ended (Ok bs) = Ok (no_lines ∷ bs)

-- the same where the line is of the innermost block, and opens none. There is always such a block;
-- else the answer would be a fault of the line
abbrev pub with_line : ℕ → Form → Result (List Block) ℕ → Result (List Block) ℕ
with_line n f (Ok (b ∷ bs)) = Ok (plain_line n f b ∷ bs)
with_line n f (Ok []) = Err n
with_line n f (Err m) = Err m

-- the same where the line is a head: the innermost block is its own, the next one that in which it
-- stands
abbrev pub with_head : ℕ → Form → ℕ → Result (List Block) ℕ → Result (List Block) ℕ
with_head n f column (Ok (b ∷ c ∷ bs)) = Ok (head_line n f column b c ∷ bs)
with_head n f column (Ok (b ∷ [])) = Err n
with_head n f column (Ok []) = Err n
with_head n f column (Err m) = Err m

-- with what reads the lines behind this one in the open blocks, and these lines
module _ (rest : List Around → Result (List Block) ℕ) (ls : List Laid) where
  -- a head opens its block
  abbrev pub headed : Laid → Around → List Around → Form → Result ℕ ℕ → Result (List Block) ℕ
  headed l o os f (Err n) = Err n
  headed l o os f (Ok column) =
      with_head l.line f column (rest (inside o f column ∷ behind o f ∷ os))

  -- a line of the innermost open block
  abbrev pub formed : Laid → Around → List Around → Option Form → Result (List Block) ℕ
  formed l o os None = Err l.line
  formed l o os (Some f) = elim (opens f) [
    | true ↦ headed l o os f (block_column l ls)
    | false ↦ with_line l.line f (rest (behind o f ∷ os))
  ]

  -- a line is of the open block at its column, and ends the deeper ones; the layout has seen that
  -- there is such a block
  abbrev pub in_block : Laid → List Around → Result (List Block) ℕ
  in_block l [] = Err l.line
  in_block l (o ∷ os) = elim (l.column == o.column) [
    | true ↦ formed l o os (form_there o l.tokens)
    | false ↦ elim (nat_lt l.column o.column) [ true ↦ ended (in_block l os) | false ↦ Err l.line ]
  ]

-- what these lines add to each of the open blocks, innermost first; or the first line that is
-- refused
unfoldable pub read_lines : List Laid → List Around → Result (List Block) ℕ
read_lines [] os = Ok (map (λ _. no_lines) os)
read_lines (l ∷ ls) os = in_block (read_lines ls) ls l os

-- what is read of the one block of the top level
abbrev pub outermost : Result (List Block) ℕ → Result Block ℕ
outermost (Ok []) = Ok no_lines
outermost (Ok (b ∷ bs)) = Ok b
outermost (Err n) = Err n

-- the tree of a file of these logical lines, or the first line of the first of them that is refused
abbrev pub file_reads : Place → List Laid → Result Block ℕ
file_reads p ls = outermost (read_lines ls (top_level p ∷ []))

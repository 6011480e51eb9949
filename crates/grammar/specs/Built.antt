-- Putting the lines of a file into their blocks, from the last line to the first. (This project's
-- own.)
use Rattle.std.specs.Prelude.{ℕ, ◌==◌, true, false, List, [], ◌∷◌, filter_map, Option, option_map}
use Rattle.grammar.specs.Statements as written
use Rattle.grammar.specs.FormReading.{form_reads}
use Rattle.grammar.specs.Blocks.{Laid}
use Rattle.grammar.specs.BareLines.{Form, Lines, no_lines, a_line, bare_simple, bare_form}

-- what belongs to a line: nothing, the block that follows, or a statement on the line itself
pub data Belongs : Type 0 where
  nothing : Belongs
  block : Belongs
  statement : Form → Belongs

-- a logical line that was read
pub record Made : Type 0 where
  pub number : ℕ
  pub column : ℕ
  pub form : Form
  pub body : Belongs

-- the lines of a block, of which those before them aren't known yet
pub record Pending : Type 0 where
  pub column : ℕ
  pub lines : Lines

-- a line before those of its column
abbrev pub put : ℕ → (Lines → Lines) → List Pending → List Pending
put column line [] = record { column = column; lines = line no_lines } ∷ []
put column line (p ∷ ps) = elim (p.column == column) [
  | true ↦ record { column = column; lines = line p.lines } ∷ ps
  | false ↦ record { column = column; lines = line no_lines } ∷ p ∷ ps
]

-- the lines of the innermost block
abbrev pub innermost : List Pending → Lines
innermost [] = no_lines
innermost (p ∷ ps) = p.lines

-- the blocks around the innermost one
abbrev pub around : List Pending → List Pending
around [] = []
around (p ∷ ps) = ps

-- the lines that belong to a line: none, the innermost block behind it, or the statement on the
-- line itself
abbrev pub inner_of : ℕ → Belongs → List Pending → Lines
inner_of n nothing ps = no_lines
inner_of n block ps = innermost ps
inner_of n (statement s) ps = a_line n s no_lines no_lines

-- the blocks that are left without these lines
abbrev pub left_by : Belongs → List Pending → List Pending
left_by nothing ps = ps
left_by block ps = around ps
left_by (statement s) ps = ps

-- a line before those behind it
abbrev pub attached : Made → List Pending → List Pending
attached m ps =
    put m.column (a_line m.number m.form (inner_of m.number m.body ps)) (left_by m.body ps)

-- lines before those behind them, put there from the last to the first
abbrev pub onto : List Made → List Pending → List Pending
onto [] ps = ps
onto (m ∷ ms) ps = attached m (onto ms ps)

-- the lines of a file, in their blocks
abbrev pub built : List Made → Lines
built ms = innermost (onto ms [])

-- what belongs to a head, by what is behind its `:`
abbrev pub body_made : written.Body → Belongs
body_made written.block = block
body_made (written.inline s) = statement (bare_simple s)

-- what belongs to a line of this form: only a head has something
abbrev pub form_body : written.Form → Belongs
form_body (written.loads s items) = nothing
form_body (written.simple s) = nothing
form_body (written.defines x ps b) = body_made b
form_body (written.if_head a b) = body_made b
form_body (written.elif_head a b) = body_made b
form_body (written.else_head b) = body_made b
form_body (written.for_head x xs a b) = body_made b

-- a logical line that was read: its number, its column and its form
abbrev pub made : ℕ → ℕ → written.Form → Made
made n column f = record { number = n; column = column; form = bare_form f; body = form_body f }

-- a logical line as it is read, where it has a form
abbrev pub made_line : Laid → Option Made
made_line l = option_map (made l.line l.column) (form_reads l.tokens)

-- those of the logical lines of a file that have a form, as they are read
abbrev pub made_lines : List Laid → List Made
made_lines ls = filter_map made_line ls

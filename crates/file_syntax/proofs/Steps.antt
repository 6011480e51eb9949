-- The states of the pass over brackets and columns, as they are named here.
use Rattle.std.proofs.Common.{ℕ, ◌≡◌, false, List, [], map, refl}
use Rattle.lexer.specs.Tokens.{Placed}
use Rattle.lexer.specs.Layout.{at_start}
use Rattle.lexer.specs.LaidOut.{first_line, last_line, ends_with_colon}
use Rattle.file_syntax.specs.IndentFault.{OpenBracket}

-- the type of a value: the states of the pass have no name outside of their crate
abbrev type_of : {A : Type 0} → A → Type 0
type_of {A} a = A

-- the type of the elements of a list
abbrev element_of : {A : Type 0} → List A → Type 0
element_of {A} list = A

-- where a text stands between two of its tokens
abbrev pub Layout : Type 0
Layout = type_of at_start

-- a bracket that is open there
abbrev pub Open : Type 0
Open = element_of at_start.unclosed

-- the same bracket in a state
abbrev pub held : OpenBracket → Open
held o = record { bracket = o.kind; line = o.line }

-- the open brackets of a state
abbrev pub all_held : List OpenBracket → List Open
all_held os = map held os

-- where a text stands behind the tokens `line` of a logical line
abbrev pub standing : List Placed → List ℕ → List OpenBracket → Layout
standing line columns unclosed = record {
  unclosed = all_held unclosed;
  columns = columns;
  head = ends_with_colon false line;
  first = first_line line;
  last = last_line 0 line;
}

-- behind no token a text is at its start
at_first : standing [] [] [] ≡ at_start
at_first = refl

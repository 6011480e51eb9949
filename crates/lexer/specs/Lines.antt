-- The logical lines of a file, and the first fault of the passes over characters, tokens and
-- layout. (Starlark specification, "Lexical elements"; that there are passes, and their order, is
-- this project's own; docs/PROFILE.md, "Passes".)
use Rattle.std.specs.Prelude.{ℕ, List, [], ◌∷◌, length, slice_range, Option, Some, None, Result, Ok}
use Rattle.std.specs.Prelude.{Err}
use Rattle.lexer.specs.declared.fault.FaultKind.{FaultKind}
use Rattle.lexer.specs.declared.fault.FaultKind.TheVariants as kind
use Rattle.lexer.specs.declared.fault.SyntaxFault.{SyntaxFault}
use Rattle.lexer.specs.Tokens.{Placed}
use Rattle.lexer.specs.Characters.{character_fault}
use Rattle.lexer.specs.Scan.{tokens_of}
use Rattle.lexer.specs.Layout.{line_starts, at_start}

-- a text that was read: its bytes, and its logical lines, each as the list of its tokens
pub record Read : Type 0 where
  pub text : List ℕ
  pub lines : List (List Placed)

-- the lines that begin at these places: each goes on up to the next one, the last to the end
abbrev pub lines_at : List ℕ → List Placed → List (List Placed)
lines_at [] ts = []
lines_at (place ∷ places) ts = line_at_place place places ts ∷ lines_at places ts
  where
    line_at_place : ℕ → List ℕ → List Placed → List Placed
    line_at_place place [] ts = slice_range ts place (length ts)
    line_at_place place (next ∷ others) ts = slice_range ts place next

-- a fault of a pass, at its line
abbrev pub fault : {A : Type 0} → FaultKind → ℕ → Result A SyntaxFault
fault kind line = Err (record { line = line; kind = kind })

-- the lines of a list of tokens, by its layout
abbrev pub lines_of : List Placed → Result (List ℕ) ℕ → Result (List (List Placed)) SyntaxFault
lines_of ts (Err line) = fault kind.Indent line
lines_of ts (Ok places) = Ok (lines_at places ts)

-- the logical lines of the tokens that were found, or the fault of the pass over tokens or over
-- layout
abbrev pub laid_out : Result (List Placed) ℕ → Result (List (List Placed)) SyntaxFault
laid_out (Err line) = fault kind.Token line
laid_out (Ok ts) = lines_of ts (line_starts 0 at_start ts)

-- the logical lines of a text, where the line of its first byte that is no character, if it has
-- one, is known
abbrev pub scanned : List ℕ → Option ℕ → Result (List (List Placed)) SyntaxFault
scanned text (Some line) = fault kind.Character line
scanned text None = laid_out (tokens_of text)

-- the logical lines of a text, each as its tokens; or the first fault of the first pass that finds
-- one. Each pass goes over the whole text: characters, then tokens, then layout
unfoldable pub reading : List ℕ → Result (List (List Placed)) SyntaxFault
reading text = scanned text (character_fault text)

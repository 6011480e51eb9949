-- The fault of a text that has no tree: the first of the five passes that finds one, and the first
-- line where it does. (docs/PROFILE.md, "Passes"; this project's own choice.)
use Rattle.std.specs.Prelude.{◌≡◌, ℕ, List, map, Some}
use Rattle.lexer.specs.declared.fault.FaultKind.TheVariants as pass
use Rattle.lexer.specs.declared.fault.SyntaxFault.{SyntaxFault}
use Rattle.lexer.specs.declared.file_kind.FileKind.{FileKind}
use Rattle.lexer.specs.Tokens.{Placed}
use Rattle.lexer.specs.LaidOut.{IsReading}
use Rattle.grammar.specs.Places.{top_of}
use Rattle.grammar.specs.Blocks.{Block, laid, SpellsFile}
use Rattle.grammar.specs.BareLines.{bare_lines}
use Rattle.grammar.specs.StatementFault.{IsStatementFault}
use Rattle.file_syntax.specs.LineFault.{IsLineFault}
use Rattle.file_syntax.specs.Scopes.{scope_fault}

-- the first fault of a text of this kind, by the pass that finds it: characters, tokens and layout;
-- statements, where a text has logical lines; scopes, where these have a tree
pub data IsFault (text : List ℕ) (kind : FileKind) (f : SyntaxFault) : Type 0 where
  below_lines : IsLineFault text f → IsFault text kind f
  in_statements : (lines : List (List Placed)) → IsReading text lines → f.kind ≡ pass.Statement
      → IsStatementFault (top_of kind) (map laid lines) f.line → IsFault text kind f
  in_scopes : (lines : List (List Placed)) (tree : Block) → IsReading text lines
      → SpellsFile (top_of kind) lines tree
      → f.kind ≡ pass.Scope → scope_fault (bare_lines tree) ≡ Some f.line → IsFault text kind f

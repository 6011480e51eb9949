-- The tree of a file, from its bytes, and the fault of a file that has none.
-- (docs/PROFILE.md, "Passes"; this project's own choice.)
use Rattle.std.specs.Prelude.{◌≡◌, ℕ, List, map, Option, Some, None, Result, Ok, Err}
use Rattle.lexer.specs.declared.fault.FaultKind.TheVariants as kind
use Rattle.lexer.specs.declared.fault.SyntaxFault.{SyntaxFault}
use Rattle.lexer.specs.declared.file_kind.FileKind.{FileKind}
use Rattle.lexer.specs.Tokens.{Placed}
use Rattle.lexer.specs.Lines.{fault, reading}
use Rattle.lexer.specs.LaidOut.{IsReading}
use Rattle.grammar.specs.Places.{top_of}
use Rattle.grammar.specs.Blocks.{Block, laid, SpellsFile}
use Rattle.grammar.specs.BlockReading.{file_reads}
use Rattle.grammar.specs.BareLines.{bare_lines}
use Rattle.file_syntax.specs.Scopes.{scope_fault}

-- a text is a file of this kind with this tree: it reads as logical lines, which are those of the
-- tree, and no line of it breaks a rule of scopes
pub record IsFile (text : List ℕ) (kind : FileKind) (tree : Block) : Type 0 where
  pub lines : List (List Placed)
  pub read : IsReading text lines
  pub spelled : SpellsFile (top_of kind) lines tree
  pub scoped : scope_fault (bare_lines tree) ≡ None

-- the pass over the scopes of a tree
abbrev pub with_scopes : Block → Option ℕ → Result Block SyntaxFault
with_scopes tree None = Ok tree
with_scopes tree (Some line) = fault kind.Scope line

-- the pass over the statements, and what comes behind it
abbrev pub with_statements : Result Block ℕ → Result Block SyntaxFault
with_statements (Err line) = fault kind.Statement line
with_statements (Ok tree) = with_scopes tree (scope_fault (bare_lines tree))

-- the passes that read a text as logical lines, and what comes behind them
abbrev pub with_lines : FileKind → Result (List (List Placed)) SyntaxFault
    → Result Block SyntaxFault
with_lines kind (Err f) = Err f
with_lines kind (Ok lines) = with_statements (file_reads (top_of kind) (map laid lines))

-- the tree of a text, or the fault of the first of the five passes that finds one, at the first
-- line where it does: characters, tokens, layout, statements, scopes. Each pass goes over the whole
-- text
abbrev pub syntax : List ℕ → FileKind → Result Block SyntaxFault
syntax text kind = with_lines kind (reading text)

-- A text has the tree that is read of it, at most one, and a fault exactly where it has none.
use Rattle.std.proofs.Common.{◌≡◌, ℕ, List, map, refl, sym, ap, ◌∙◌, Option, Some, None, Result, Ok, Err}
use Rattle.lexer.specs.declared.fault.SyntaxFault.{SyntaxFault}
use Rattle.lexer.specs.declared.file_kind.FileKind.{FileKind}
use Rattle.lexer.specs.Tokens.{Placed}
use Rattle.lexer.specs.Lines.{reading}
use Rattle.grammar.specs.Blocks.{Block, laid}
use Rattle.grammar.specs.BlockReading.{file_reads}
use Rattle.grammar.specs.BareLines.{bare_lines}
use Rattle.file_syntax.specs.Scopes.{scope_fault}
use Rattle.grammar.specs.Places.{top_of}
use Rattle.file_syntax.specs.Files.{IsFile, with_scopes, with_statements, with_lines, syntax}
use Rattle.lexer.proofs.ReadingLaws.{reading_is, reading_as}
use Rattle.grammar.proofs.FilesRead.{file_sound, file_complete}

-- what the passes go through without fault
scopes_passed : (tree read : Block) (r : Option ℕ) → with_scopes tree r ≡ Ok read → (r ≡ None) × (tree ≡ read)
scopes_passed tree read None e = (refl, cc)
scopes_passed tree read (Some line) e = absurd cc

statements_passed : (r : Result Block ℕ) (tree : Block) → with_statements r ≡ Ok tree → (r ≡ Ok tree) × (scope_fault (bare_lines tree) ≡ None)
statements_passed (Err line) tree e = absurd cc
statements_passed (Ok read) tree e =
    let h = scopes_passed read tree (scope_fault (bare_lines read)) e in
    (ap Ok h.1, ap (λ t. scope_fault (bare_lines t)) (sym h.1) ∙ h.0)

lines_passed : (kind : FileKind) (r : Result (List (List Placed)) SyntaxFault) (tree : Block) → with_lines kind r ≡ Ok tree
    → (lines : List (List Placed)) × (r ≡ Ok lines) × (with_statements (file_reads (top_of kind) (map laid lines)) ≡ Ok tree)
lines_passed kind (Err f) tree e = absurd cc
lines_passed kind (Ok lines) tree e = (lines, refl, e)

-- what is read is the tree
pub syntax_is : (text : List ℕ) (kind : FileKind) (tree : Block) → syntax text kind ≡ Ok tree → IsFile text kind tree
syntax_is text kind tree e =
    let a = lines_passed kind (reading text) tree e in
    let b = statements_passed (file_reads (top_of kind) (map laid a.0)) tree a.2 in
    record { lines = a.0; read = reading_is text a.0 a.1; spelled = file_sound (top_of kind) a.0 tree b.0; scoped = b.1 }

-- the tree is read
pub syntax_as : (text : List ℕ) (kind : FileKind) (tree : Block) → IsFile text kind tree → syntax text kind ≡ Ok tree
syntax_as text kind tree h =
    ap (with_lines kind) (reading_as text h.lines h.read)
    ∙ ap with_statements (file_complete (top_of kind) h.lines tree h.spelled)
    ∙ ap (with_scopes tree) h.scoped

pub same_tree : (text : List ℕ) (kind : FileKind) (t u : Block) → IsFile text kind t → IsFile text kind u → t ≡ u
same_tree text kind t u h k = let x = syntax_as text kind t h in let y = syntax_as text kind u k in cc

pub refused_has_none : (text : List ℕ) (kind : FileKind) (f : SyntaxFault) (tree : Block) → syntax text kind ≡ Err f → ¬ IsFile text kind tree
refused_has_none text kind f tree e h = let x = syntax_as text kind tree h in absurd cc

pub none_is_refused : (text : List ℕ) (kind : FileKind) → ((tree : Block) → ¬ IsFile text kind tree) → (f : SyntaxFault) × (syntax text kind ≡ Err f)
none_is_refused text kind h = by_answer (syntax text kind) refl
  where
    by_answer : (r : Result Block SyntaxFault) → syntax text kind ≡ r → (f : SyntaxFault) × (syntax text kind ≡ Err f)
    by_answer (Ok tree) e = absurd (h tree (syntax_is text kind tree e))
    by_answer (Err f) e = (f, e)

-- The fault that the passes give is the first fault of the text, and the other way round.
use Rattle.std.proofs.Common.{◌≡◌, ℕ, List, map, refl, sym, ap, ◌∙◌, Option, Some, None, Result, Ok, Err}
use Rattle.lexer.specs.declared.fault.FaultKind.{FaultKind}
use Rattle.lexer.specs.declared.fault.FaultKind.TheVariants as pass
use Rattle.lexer.specs.declared.fault.SyntaxFault.{SyntaxFault}
use Rattle.lexer.specs.declared.file_kind.FileKind.{FileKind}
use Rattle.lexer.specs.Tokens.{Placed}
use Rattle.lexer.specs.Lines.{fault, reading}
use Rattle.grammar.specs.Blocks.{Block, laid}
use Rattle.grammar.specs.BlockReading.{file_reads}
use Rattle.grammar.specs.BareLines.{bare_lines}
use Rattle.file_syntax.specs.Scopes.{scope_fault}
use Rattle.grammar.specs.Places.{top_of}
use Rattle.file_syntax.specs.Files.{with_scopes, with_statements, with_lines, syntax}
use Rattle.file_syntax.specs.FirstFault.{IsFault, below_lines, in_statements, in_scopes}
use Rattle.lexer.proofs.ReadingLaws.{reading_is, reading_as}
use Rattle.grammar.proofs.FilesRead.{file_sound, file_complete}
use Rattle.grammar.proofs.StatementFaults.{first_fault, fault_refused}
use Rattle.grammar.proofs.ColonLaws.{last_shut}
use Rattle.file_syntax.proofs.LineFaults.{line_fault_is, line_fault_as}

-- the pass that finds a fault
scope_found : (tree : Block) (r : Option ℕ) (f : SyntaxFault) → with_scopes tree r ≡ Err f → (r ≡ Some f.line) × (f.kind ≡ pass.Scope)
scope_found tree None f e = absurd cc
scope_found tree (Some line) f e = (cc, cc)

-- a fault behind the logical lines
behind_lines : (text : List ℕ) (kind : FileKind) (lines : List (List Placed)) (f : SyntaxFault) → reading text ≡ Ok lines
    → (r : Result Block ℕ) → file_reads (top_of kind) (map laid lines) ≡ r → with_statements r ≡ Err f → IsFault text kind f
behind_lines text kind lines f h (Ok tree) g e =
    let s = scope_found tree (scope_fault (bare_lines tree)) f e in
    in_scopes lines tree (reading_is text lines h) (file_sound (top_of kind) lines tree g) s.1 s.0
behind_lines text kind lines f h (Err n) g e =
    let r = reading_is text lines h in
    let same : n ≡ f.line = cc in
    let of_pass : f.kind ≡ pass.Statement = cc in
    in_statements lines r of_pass (first_fault (top_of kind) (map laid lines) f.line (last_shut lines _ _ r.laid_out.nested) (g ∙ ap Err same))

pub fault_is : (text : List ℕ) (kind : FileKind) (f : SyntaxFault) → syntax text kind ≡ Err f → IsFault text kind f
fault_is text kind f e = by_lines (reading text) refl e
  where
    by_lines : (r : Result (List (List Placed)) SyntaxFault) → reading text ≡ r → with_lines kind r ≡ Err f → IsFault text kind f
    by_lines (Err g) h e = let same : g ≡ f = cc in below_lines (line_fault_is text f (h ∙ ap Err same))
    by_lines (Ok lines) h e = behind_lines text kind lines f h (file_reads (top_of kind) (map laid lines)) refl e

same_fault : (k : FaultKind) (f : SyntaxFault) → f.kind ≡ k → Path (Result Block SyntaxFault) (fault k f.line) (Err f)
same_fault k f e = ap (λ (k : FaultKind). Err (record { line = f.line; kind = k })) (sym e)

pub fault_as : (text : List ℕ) (kind : FileKind) (f : SyntaxFault) → IsFault text kind f → syntax text kind ≡ Err f
fault_as text kind f (below_lines e) = ap (with_lines kind) (line_fault_as text f e)
fault_as text kind f (in_statements lines r k h) =
    ap (with_lines kind) (reading_as text lines r)
    ∙ ap with_statements (fault_refused (top_of kind) (map laid lines) f.line (last_shut lines _ _ r.laid_out.nested) h)
    ∙ same_fault pass.Statement f k
fault_as text kind f (in_scopes lines tree r s k h) =
    ap (with_lines kind) (reading_as text lines r)
    ∙ ap with_statements (file_complete (top_of kind) lines tree s)
    ∙ ap (with_scopes tree) h
    ∙ same_fault pass.Scope f k

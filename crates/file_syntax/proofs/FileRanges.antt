-- A file that has a tree is a program.
use Rattle.std.proofs.Common.{◌≡◌, ℕ, List, length, Ok, refl, subst, sym}
use Rattle.lexer.specs.declared.file_kind.FileKind.{FileKind}
use Rattle.grammar.specs.Blocks.{Block}
use Rattle.grammar.specs.BareLines.{bare_lines}
use Rattle.file_syntax.specs.Files.{syntax}
use Rattle.program_tree.specs.Names.{lines_bind, once, file_scope}
use Rattle.program_tree.specs.Resolved.{Program, resolved, steps_of, steps_slots}
use Rattle.file_syntax.specs.IsProgram.{IsProgram, at_top}
use Rattle.file_syntax.proofs.FileLaws.{syntax_is}
use Rattle.file_syntax.proofs.NamePlaces.{all_among, among_once, distinct_once}
use Rattle.file_syntax.proofs.TokensFit.{file_fits}
use Rattle.file_syntax.proofs.WellFormed.{file_well}
use Rattle.file_syntax.proofs.LoadNumbers.{file_numbers}
use Rattle.file_syntax.proofs.LineRanges.{top_made, steps_numbered, numbers_stay}

pub file_is : (text : List ℕ) (kind : FileKind) (tree : Block) → syntax text kind ≡ Ok tree → IsProgram (resolved (bare_lines tree))
file_is text kind tree e =
    let h = syntax_is text kind tree e in
    let ls = bare_lines tree in
    let s = file_scope ls in
    let names = all_among _ (lines_bind ls) (λ x k. (refl, among_once x (lines_bind ls) k)) in
    let well = file_well kind tree h.spelled.is_block (file_fits text kind h.lines tree h.read h.spelled) in
    let made = top_made s ls refl well h.scoped names in
    let numbers = file_numbers kind tree h.spelled.is_block well h.scoped in
    record {
      globals = distinct_once (lines_bind ls);
      loads = numbers.0;
      own = numbers.1;
      functions = numbers_stay 1 (steps_of s ls);
      statements = steps_numbered at_top (length (once (lines_bind ls))) (steps_slots (steps_of s ls)) 1 (steps_of s ls) made;
    }

-- the same of what is seen as it
pub program_is : (text : List ℕ) (kind : FileKind) (tree : Block) (p : Program) → syntax text kind ≡ Ok tree → p ≡ resolved (bare_lines tree) → IsProgram p
program_is text kind tree p e s = subst IsProgram (sym s) (file_is text kind tree e)

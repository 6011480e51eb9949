-- A file that has a tree is shallow.
use Rattle.std.proofs.Common.{◌≡◌, ℕ, List, Ok, subst, sym, false, true, arith}
use Rattle.lexer.specs.declared.file_kind.FileKind.{FileKind}
use Rattle.grammar.specs.Blocks.{Block}
use Rattle.grammar.specs.BareLines.{bare_lines}
use Rattle.grammar.specs.Places.{top_of}
use Rattle.grammar.proofs.BareLaws.{block_shallow}
use Rattle.file_syntax.specs.Files.{syntax}
use Rattle.program_tree.specs.Names.{file_scope}
use Rattle.program_tree.specs.Resolved.{Program, resolved, steps_of}
use Rattle.file_syntax.specs.ProgramDepth.{IsShallow}
use Rattle.file_syntax.proofs.FileLaws.{syntax_is}
use Rattle.file_syntax.proofs.ProgramDepths.{made_within, nested_within, numbered_depth, numbered_nesting}
use Rattle.file_syntax.proofs.BlocksNested.{blocks_within}

pub file_shallow : (text : List ℕ) (kind : FileKind) (tree : Block) → syntax text kind ≡ Ok tree → IsShallow (resolved (bare_lines tree))
file_shallow text kind tree e =
    let h = syntax_is text kind tree e in
    let ls = bare_lines tree in
    let d = made_within (file_scope ls) ls in
    let k = block_shallow _ false true 0 tree h.spelled.is_block in
    let n = nested_within (file_scope ls) ls in
    let b = blocks_within (top_of kind) h.lines tree h.spelled h.read.laid_out.nested in
    let e1 = numbered_depth 1 (steps_of (file_scope ls) ls) in
    let e2 = numbered_nesting 1 (steps_of (file_scope ls) ls) in
    record { expressions = omega (arith, d, k, e1); blocks = omega (arith, n, b, e2) }

-- the same of what is seen as it
pub program_shallow : (text : List ℕ) (kind : FileKind) (tree : Block) (p : Program) → syntax text kind ≡ Ok tree → p ≡ resolved (bare_lines tree) → IsShallow p
program_shallow text kind tree p e s = subst IsShallow (sym s) (file_shallow text kind tree e)

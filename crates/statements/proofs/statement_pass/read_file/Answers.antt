use Rattle.std.proofs.Common.{◌≡◌, ◌≤◌, true, false, map, sym, subst, Ok}
use Rattle.grammar.specs.BareDepth.{lines_depth}
use Rattle.grammar.specs.BareLines.{bare_lines}
use Rattle.grammar.specs.Blocks.{Block, laid}
use Rattle.grammar.specs.BlockReading.{file_reads}
use Rattle.grammar.specs.LineView as view
use Rattle.grammar.specs.Places.{top_of}
use Rattle.grammar.proofs.BareLaws.{block_shallow}
use Rattle.grammar.proofs.FilesRead.{file_sound}
use Rattle.statements.proofs.ReadLemmas.{if_ok_then}
use Rattle.statements.proofs.statement_pass.read_file.Goals as goal

pub returns-clause-shallow : goal.returns-clause-shallow
returns-clause-shallow c =
    let p = top_of c.args.kind in
    let lines = c.args.lines.lines in
    if_ok_then c.blocks_of.result
    (λ ls. (tree : Block) × (file_reads p (map laid lines) ≡ Ok tree) × (view.lines ls.items ≡ bare_lines tree))
    (λ ls. lines_depth (view.lines ls.items) ≤ 200)
    (λ ls t. subst (λ ls. lines_depth ls ≤ 200) (sym t.2) (block_shallow p false true 0 t.0 (file_sound p lines t.0 t.1).is_block))
    c.blocks_of.ensures.tree

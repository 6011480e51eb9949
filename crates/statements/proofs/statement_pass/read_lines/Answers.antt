use Rattle.std.proofs.Common.{map, ◌∙◌}
use Rattle.statements.specs.BuiltView.{read_of}
use Rattle.lexer.specs.Seen.{seen}
use Rattle.statements.proofs.ReadLemmas.{outlines_next, reads_next}
use Rattle.statements.proofs.statement_pass.read_lines.Goals as goal

pub loop-place-preserved : goal.loop-place-preserved
loop-place-preserved c =
    let lines = c.args.lines.now.lines in
    let line = map (seen c.args.lines.now.text) c.line.result.now in
    let found = c.loop-place.found in
    let new = c.read_line.new.found in (
      c.loop-place.invariant.0
          ∙ outlines_next lines c.loop-place.place line found.outlines.items new.outlines.items c.line.ensures
          c.in_ok-read_line.ensures.outlines,
      c.loop-place.invariant.1
          ∙ reads_next lines c.loop-place.place line (map read_of found.reads.items) (map read_of new.reads.items) c.line.ensures
          c.in_ok-read_line.ensures.reads,
    )

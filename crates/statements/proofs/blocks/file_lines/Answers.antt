use Rattle.std.proofs.Common.{map, sym, ap, ◌∙◌}
use Rattle.grammar.specs.Built.{onto}
use Rattle.grammar.specs.LineView.{line_of}
use Rattle.statements.specs.BuiltView.{pendings, read_of}
use Rattle.statements.proofs.BuiltLemmas.{last_first}
use Rattle.statements.proofs.blocks.file_lines.Goals as goal

pub loop-read-preserved : goal.loop-read-preserved
loop-read-preserved c =
    ap (onto (map read_of c.pop.new.self.items)) c.in_ok-attach.ensures
    ∙ sym (last_first c.pop.new.self.items c.in-Some.read (pendings line_of c.loop-read.blocks.items))
    ∙ ap (λ rs. onto (map read_of rs) (pendings line_of c.loop-read.blocks.items)) (sym c.in-Some.ensures.items)
    ∙ c.loop-read.invariant

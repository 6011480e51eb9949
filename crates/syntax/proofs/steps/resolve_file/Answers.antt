use Rattle.std.proofs.Common.{◌≤◌, subst, sym}
use Rattle.grammar.specs.BareDepth.{lines_depth}
use Rattle.grammar.specs.LineView.{lines}
use Rattle.syntax.proofs.DepthLemmas.{take_depth}
use Rattle.syntax.proofs.steps.resolve_file.Goals as goal

pub resolve_owned-requires : goal.resolve_owned-requires
resolve_owned-requires c =
    subst (λ ls. lines_depth (lines ls) ≤ 200) (sym c.truncate.ensures.items) (take_depth c.args.lines.items c.in_ok-kept.kept 200 c.requires)

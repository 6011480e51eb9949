use Rattle.std.proofs.Common.{◌≡◌, drop}
use Rattle.load_graph.specs.Paths.{line_back}
use Rattle.load_graph.proofs.cycles.cycle_line.Given as goal

abbrev pub invariant-loop-load : goal.invariant-loop-load
invariant-loop-load l = line_back l.paths l.components.numbers l.own l.loads ≡ line_back l.paths l.components.numbers l.own (drop l.load-index l.loads)

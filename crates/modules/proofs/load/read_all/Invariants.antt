use Rattle.std.proofs.Common.{◌≡◌, map, take}
use Rattle.modules.proofs.load.read_all.Given as goal

abbrev pub invariant-loop-path : goal.invariant-loop-path
invariant-loop-path g l = l.files.items ≡ map (g.E.Evaluate.meaning l.evaluator).read (take l.path-index l.paths)

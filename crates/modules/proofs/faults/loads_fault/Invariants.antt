use Rattle.std.proofs.Common.{◌≡◌, drop}
use Rattle.loading.specs.Loads.{loads_fault}
use Rattle.modules.proofs.faults.loads_fault.Given as goal

abbrev pub invariant-loop-load : goal.invariant-loop-load
invariant-loop-load g l =
    loads_fault {S = g.row.S.Denot} {K = g.row.K.Denot} (g.E.Evaluate.meaning l.evaluator).globals l.path (g.F.Find.at l.modules) l.loads
    ≡ loads_fault {S = g.row.S.Denot} {K = g.row.K.Denot} (g.E.Evaluate.meaning l.evaluator).globals l.path (g.F.Find.at l.modules) (drop l.load-index l.loads)

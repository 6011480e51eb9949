use Rattle.std.proofs.Common.{◌≡◌, drop}
use Rattle.loading.specs.Loads.{names_fault}
use Rattle.modules.proofs.faults.names_fault.Given as goal

abbrev pub invariant-loop-name : goal.invariant-loop-name
invariant-loop-name g l =
    names_fault {S = g.row.S.Denot} {K = g.row.K.Denot} (g.E.Evaluate.meaning l.evaluator).globals l.path l.line l.asked l.value
    ≡ names_fault {S = g.row.S.Denot} {K = g.row.K.Denot} (g.E.Evaluate.meaning l.evaluator).globals l.path l.line (drop l.name-index l.asked) l.value

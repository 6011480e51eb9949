use Rattle.std.proofs.Common.{◌≡◌, ◌++◌, drop}
use Rattle.analysis.proofs.finishing.put_all.Given as goal

abbrev pub invariant-loop-instance : goal.invariant-loop-instance
invariant-loop-instance l = l.providers ++ drop l.instance-index l.instances ≡ l.fn.providers ++ l.instances

use Rattle.std.proofs.Common.{◌≡◌, ◌++◌, drop}
use Rattle.operands.proofs.bindings.Bindings.to_values.Given as goal

abbrev pub invariant-loop-name : goal.invariant-loop-name
invariant-loop-name l = l.values.items ++ drop l.name-index l.self ≡ l.self

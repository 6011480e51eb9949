use Rattle.std.proofs.Common.{◌≡◌, ◌++◌, drop}
use Rattle.scopes.proofs.scope.texts_of.Given as goal

abbrev pub invariant-loop-name : goal.invariant-loop-name
invariant-loop-name l = l.found.items ++ drop l.name-index l.names ≡ l.names

use Rattle.std.proofs.Common.{◌≡◌, drop}
use Rattle.file_syntax.specs.Scopes.{none_predeclared}
use Rattle.scopes.proofs.scope.none_predeclared.Given as goal

abbrev pub invariant-loop-name : goal.invariant-loop-name
invariant-loop-name l = none_predeclared l.names ≡ none_predeclared (drop l.name-index l.names)

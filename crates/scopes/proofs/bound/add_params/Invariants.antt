use Rattle.std.proofs.Common.{◌≡◌, ◌++◌, drop, map}
use Rattle.grammar.specs.LineView.{param_of}
use Rattle.program_tree.specs.Names.{param_name}
use Rattle.scopes.proofs.bound.add_params.Given as goal

abbrev pub invariant-loop-param : goal.invariant-loop-param
invariant-loop-param l = l.found.items ++ map param_name (map param_of (drop l.param-index l.params)) ≡ l.initial.found.items ++ map param_name (map param_of l.params)

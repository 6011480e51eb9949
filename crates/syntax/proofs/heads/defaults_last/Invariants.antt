use Rattle.std.proofs.Common.{◌≡◌, drop, map, if◌then◌else◌}
use Rattle.std.specs.List.{list_all}
use Rattle.grammar.specs.LineView.{param_of}
use Rattle.file_syntax.specs.Scopes.{defaults_last, has_default}
use Rattle.syntax.proofs.heads.defaults_last.Given as goal

abbrev pub invariant-loop-param : goal.invariant-loop-param
invariant-loop-param l = defaults_last (map param_of l.params) ≡ (if l.had_default then list_all has_default (map param_of (drop l.param-index l.params)) else defaults_last (map param_of (drop l.param-index l.params)))

use Rattle.std.proofs.Common.{◌≡◌, ◌≤◌, drop, map}
use Rattle.std.specs.List.{list_all}
use Rattle.grammar.specs.BareDepth.{params_depth}
use Rattle.grammar.specs.LineView.{param_of}
use Rattle.program_tree.specs.ProgramView as view
use Rattle.program_tree.specs.ProgramView.{terms_onto}
use Rattle.program_tree.specs.Resolved.{defaults}
use Rattle.file_syntax.specs.Scopes.{param_scoped}
use Rattle.syntax.proofs.heads.defaults.Given as goal

-- what is left breaks no rule where all breaks none, and stands behind what was resolved
abbrev pub invariant-loop-param : goal.invariant-loop-param
invariant-loop-param l =
    (list_all (param_scoped l.initial.scope) (map param_of (drop l.param-index l.params)) ≡ list_all (param_scoped l.initial.scope) (map param_of l.params))
    × (terms_onto (map view.term l.found.items) (defaults l.initial.scope (map param_of (drop l.param-index l.params))) ≡ defaults l.initial.scope (map param_of l.params))
    × (l.scope ≡ l.initial.scope)
    × (params_depth (map param_of (drop l.param-index l.params)) ≤ 200)

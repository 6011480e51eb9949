use Rattle.std.proofs.Common.{◌++◌, ap, ◌∙◌}
use Rattle.program_tree.specs.Names.{among}
use Rattle.syntax.proofs.top.binds_anew.Goals as goal

pub returns-clause-bound : goal.returns-clause-bound
returns-clause-bound c t x =
    c.in_ok-bind_anew.ensures.bound c.if-not-branch.false x ∙ ap (λ ns. among x (ns ++ c.args.before.now.keys)) (c.as_slice.ensures.value ∙ c.in_ok-names.ensures)

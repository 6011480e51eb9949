use Rattle.std.proofs.Common.{subst}
use Rattle.operations.specs.Arguments.{Given}
use Rattle.operations.specs.States.{Does}
use Rattle.targets.specs.RuleCalls.{declares}
use Rattle.rule_calls.proofs.calling.declare_target.Goals as goal

pub returns : goal.returns
returns c =
    let d = c.args.declared.now in
    subst (λ (g : Given). Does (declares d.«package» d.targets c.args.rule.now g) c.args.state.now c.declare_by_name.result c.declare_by_name.new.state) c.in_ok-given.ensures c.declare_by_name.ensures

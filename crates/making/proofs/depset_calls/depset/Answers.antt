use Rattle.std.proofs.Common.{sym, subst}
use Rattle.operations.specs.States.{Does}
use Rattle.operations.specs.Depsets.{made_of}
use Rattle.making.proofs.depset_calls.depset.Goals as goal

pub returns-in-Ok : goal.returns-in-Ok
returns-in-Ok c =
    subst (λ r. Does (made_of r) c.args.state.now c.new_depset.result c.new_depset.new.state) (sym c.in-Ok.ensures) c.new_depset.ensures

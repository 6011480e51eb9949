use Rattle.std.proofs.Common.{true, false, sym, ◌∙◌, map, arith}
use Rattle.operations.specs.Arguments.{given}
use Rattle.calls.specs.Parameters.{taken}
use Rattle.calls.proofs.Binds.{excess, decided, as_long}
use Rattle.calls.proofs.binding.check_arguments.Goals as goal

pub returns-then-arguments-parameters : goal.returns-then-arguments-parameters
returns-then-arguments-parameters c =
    let n = as_long taken c.args.parameters.now in
    excess (given c.args.arguments.now) (map taken c.args.parameters.now) (sym c.if-not-are_known.false ∙ c.are_known.ensures)
    (omega (arith, n, c.if-arguments-parameters.true))

pub returns-then-not-may_get_all : goal.returns-then-not-may_get_all
returns-then-not-may_get_all c =
    let n = as_long taken c.args.parameters.now in
    decided (given c.args.arguments.now) (map taken c.args.parameters.now) false (sym c.if-not-are_known.false ∙ c.are_known.ensures)
    (omega (arith, n, c.if-arguments-parameters.false)) (sym c.if-not-may_get_all.true ∙ c.may_get_all.ensures)

pub returns : goal.returns
returns c =
    let n = as_long taken c.args.parameters.now in
    decided (given c.args.arguments.now) (map taken c.args.parameters.now) true (sym c.if-not-are_known.false ∙ c.are_known.ensures)
    (omega (arith, n, c.if-arguments-parameters.false)) (sym c.if-not-may_get_all.false ∙ c.may_get_all.ensures)

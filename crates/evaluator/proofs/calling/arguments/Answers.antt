use Rattle.std.proofs.Common.{arith}
use Rattle.evaluator.proofs.Pairing.{fewer_names, fewer_values}
use Rattle.evaluator.proofs.calling.arguments.Goals as goal

pub returns-then-names-values : goal.returns-then-names-values
returns-then-names-values c = fewer_names c.args.items.now c.args.names.now c.args.values.now c.if-names-values.true

pub returns-else-names-values : goal.returns-else-names-values
returns-else-names-values c =
    fewer_values c.args.items.now c.args.names.now c.args.values.now (omega (arith, c.if-names-values.false))

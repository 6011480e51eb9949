use Rattle.std.proofs.Common.{refl}
use Rattle.values.specs.Shape.{shape}
use Rattle.state.proofs.Sizes.{sum_refused}
use Rattle.state.proofs.operators.plus.Goals as goal

pub returns-in-Err : goal.returns-in-Err
returns-in-Err c =
    let s = c.args.state.now in
    ((refl, refl), sum_refused (shape s.heap c.args.a.now) (shape s.heap c.args.b.now) s c.in-Err.broken c.in-Err.ensures)

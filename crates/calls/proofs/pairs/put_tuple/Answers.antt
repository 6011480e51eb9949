use Rattle.std.proofs.Common.{subst}
use Rattle.ticks.specs.Ticking.{FaultOr}
use Rattle.operations.specs.Making.{new_tuple}
use Rattle.calls.proofs.Tuples.{same_grown, stays_grown, tuple_grows, no_tuple, pushed_does}
use Rattle.calls.proofs.pairs.put_tuple.Goals as goal

pub returns-in_err-pair-clause-grown : goal.returns-in_err-pair-clause-grown
returns-in_err-pair-clause-grown c = same_grown c.args.state.now

pub returns-in-Ok : goal.returns-in-Ok
returns-in-Ok c = record {
  grown = tuple_grows c.in_ok-pair.pair c.args.state.now c.new_tuple.new.state c.in-Ok.tuple c.in-Ok.ensures;
  tuples = pushed_does c.args.tuples.now c.push.new.tuples c.in_ok-pair.pair c.args.key.now c.args.value.now c.args.state.now c.new_tuple.new.state c.in-Ok.tuple c.push.result
      c.in_ok-pair.ensures c.in-Ok.ensures c.push.ensures;
}

pub returns-in-Err : goal.returns-in-Err
returns-in-Err c = record {
  grown = stays_grown c.args.state.now c.new_tuple.new.state c.in-Err.ensures.0;
  tuples = no_tuple c.args.tuples.now c.args.key.now c.args.value.now c.args.state.now c.in-Err.broken
      (subst (λ l. FaultOr (new_tuple l c.args.state.now) c.in-Err.broken) c.in_ok-pair.ensures c.in-Err.ensures.1);
}

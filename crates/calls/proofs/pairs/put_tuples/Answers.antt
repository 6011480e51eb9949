use Rattle.std.proofs.Common.{sym, ◌∙◌, subst}
use Rattle.std.proofs.lemmas.Slice.Zip.{Zip-more, either_empty_from_Zip}
use Rattle.ticks.specs.Ticking.{FaultOr}
use Rattle.calls.proofs.Tuples.{grown_on, turned, unturned, all_behind}
use Rattle.calls.proofs.pairs.put_tuples.Goals as goal

pub loop-key-preserved : goal.loop-key-preserved
loop-key-preserved c =
    let step = Zip-more c.loop-key.key-iterator c.next.new.self _ _ c.in-Some.is c.next.ensures.steps in (
      sym (turned _ _ _ _ c.in-Some.key.now c.in-Some.value.now step.0 step.1 c.loop-key.tuples c.loop-key.state c.put_tuple.new.tuples c.put_tuple.new.state c.in_default.ensures.tuples)
          ∙ c.loop-key.invariant.0,
      grown_on c.args.state.now c.loop-key.state c.put_tuple.new.state c.loop-key.invariant.1 c.put_tuple.ensures.grown,
    )

pub returns-in-Err : goal.returns-in-Err
returns-in-Err c =
    let step = Zip-more c.loop-key.key-iterator c.next.new.self _ _ c.in-Some.is c.next.ensures.steps in
    record {
      grown = grown_on c.args.state.now c.loop-key.state c.put_tuple.new.state c.loop-key.invariant.1 c.put_tuple.ensures.grown;
      tuples = subst (λ r. FaultOr r c.in-Err.broken) c.loop-key.invariant.0
          (unturned _ _ _ _ c.in-Some.key.now c.in-Some.value.now step.0 step.1 c.loop-key.tuples c.loop-key.state c.in-Err.broken c.in-Err.ensures.tuples);
    }

pub returns-clause-tuples : goal.returns-clause-tuples
returns-clause-tuples c =
    let spent = either_empty_from_Zip c.loop-key.key-iterator c.next.new.self _ c.in-None.is c.next.ensures.steps in
    sym c.loop-key.invariant.0 ∙ all_behind c.loop-key.tuples _ _ c.loop-key.state spent

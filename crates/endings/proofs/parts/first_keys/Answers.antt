use Rattle.std.proofs.Common.{ap, arith, ◌∙◌}
use Rattle.std.specs.Iterator.Adapters.{take_source, take_count}
use Rattle.std.specs.Slice.Iter.{iter_rest}
use Rattle.indexmap.specs.IndexSet.{insert_key}
use Rattle.keys.specs.contracts.key.KeyPartialEq.TheImpl.{eq-value}
use Rattle.endings.proofs.FirstKeys.{first_put, firsts_are}
use Rattle.endings.proofs.parts.first_keys.Goals as goal

pub loop-key-preserved : goal.loop-key-preserved
loop-key-preserved c =
    let step = c.in-Some.ensures.steps in
    let had = c.loop-key.invariant in
    let put = first_put c.args.keys.now.keys c.loop-key.first.keys (iter_rest (take_source c.loop-key.key-iterator)) (iter_rest (take_source c.next.new.self)) c.in-Some.key.now
    c.as_slice.ensures.unique step.0 had.keys c.insert.new.self.keys (c.in_ok-insert.ensures.keys ∙ ap (insert_key eq-value.it c.loop-key.first.keys) c.in_ok-share.ensures) in
    record {
      keys = put.0;
      count = omega (arith, put.1, step.1, had.count);
    }

pub returns : goal.returns
returns c =
    let it = c.loop-key.key-iterator in
    firsts_are c.args.keys.now.keys c.loop-key.first.keys (iter_rest (take_source it)) c.args.count (take_count it) c.loop-key.invariant.keys c.loop-key.invariant.count c.requires
    (λ more. (c.in-None.ensures.steps more).0)

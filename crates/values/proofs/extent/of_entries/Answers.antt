use Rattle.std.proofs.Common.{refl, true}
use Rattle.std.specs.Iterator.Adapters.{rev_source}
use Rattle.std.specs.Slice.Iter.{iter_rest}
use Rattle.ticks.specs.Extents.{beside, one}
use Rattle.values.specs.Extents.{measure, values_measure}
use Rattle.values.proofs.ExtentLemmas.{are_left, gathered}
use Rattle.values.proofs.extent.of_entries.Goals as goal

pub loop-value-preserved : goal.loop-value-preserved
loop-value-preserved c =
    let left = iter_rest (rev_source c.loop-value.value-iterator) in
    let less = iter_rest (rev_source c.next.new.self) in
    let value = c.in-Some.value.now in
    let before = c.loop-value.invariant.rest in
    record {
      rest = are_left c.args.values.now left less value c.in-Some.ensures.steps before;
      behind = gathered c.args.values.now left less value c.in-Some.ensures.steps before values_measure (λ t n. beside (one true) (beside (measure t) n)) (λ t ts. refl)
          c.loop-value.extent c.beside-extent.result c.loop-value.invariant.behind
          (λ n rest. c.beside-extent.ensures (one true) (beside (measure value) n) c.one.ensures (c.beside.ensures (measure value) n c.extent.ensures rest));
    }

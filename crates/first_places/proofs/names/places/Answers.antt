use Rattle.std.proofs.Common.{◌∙◌, arith}
use Rattle.std.specs.Iterator.Adapters.{enumerate_source, rev_source}
use Rattle.std.specs.Slice.Iter.{iter_rest}
use Rattle.first_places.proofs.Placing.{left_over, placed_at}
use Rattle.first_places.proofs.names.places.Goals as goal

pub loop-place-preserved : goal.loop-place-preserved
loop-place-preserved c =
    let step = c.in-Some.ensures.steps in
    let had = c.loop-place.invariant in
    let left = iter_rest (enumerate_source (rev_source c.loop-place.place-iterator)) in
    let less = iter_rest (enumerate_source (rev_source c.next.new.self)) in
    let name = c.in-Some.name.now in
    record {
      numbered = step.0 ∙ had.numbered;
      front = (left_over c.args.names.now left less name step.1.0 had.front).1;
      placed = placed_at (λ q. q) c.args.names.now left less c.in-Some.place name c.loop-place.places c.put.new.places step.1.0 had.front
          (omega (arith, step.1.1, had.numbered)) c.in_ok-put.ensures had.placed;
    }

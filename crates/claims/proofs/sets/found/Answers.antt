use Rattle.std.proofs.Common.{subst}
use Rattle.std.proofs.lemmas.List.{take_all}
use Rattle.claims.specs.Sets.{AddsSetOf, AreSetsOf}
use Rattle.claims.proofs.Turns.{sets_more}
use Rattle.claims.proofs.sets.found.Goals as goal

pub loop-bucket-preserved : goal.loop-bucket-preserved
loop-bucket-preserved c =
    sets_more c.args.buckets.now c.loop-bucket.bucket-index c.bucket-item.result c.loop-bucket.found.items c.put_set.new.found.items c.loop-bucket-test.true c.bucket-item.is
    c.loop-bucket.invariant (subst (λ ms. AddsSetOf ms c.loop-bucket.found.items c.put_set.new.found.items) c.as_slice.ensures c.in_ok-put_set.ensures)

pub returns : goal.returns
returns c =
    subst (λ bs. AreSetsOf bs c.loop-bucket.found.items) (take_all c.loop-bucket.bucket-index c.args.buckets.now c.loop-bucket-test.false) c.loop-bucket.invariant

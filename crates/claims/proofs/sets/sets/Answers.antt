use Rattle.std.proofs.Common.{sym, subst, take, ◌+◌}
use Rattle.std.specs.List.{AllZip}
use Rattle.claims.specs.Sets.{IsSetOf}
use Rattle.claims.proofs.Turns.{zipped_more}
use Rattle.claims.proofs.sets.sets.Goals as goal

pub loop-bucket-preserved : goal.loop-bucket-preserved
loop-bucket-preserved c =
    subst (AllZip IsSetOf (take (c.loop-bucket.bucket-index + 1) c.args.buckets.now)) (sym c.in_ok-push.ensures.items)
    (zipped_more IsSetOf c.args.buckets.now c.loop-bucket.sets.items c.loop-bucket.bucket-index c.bucket-item.result c.in_ok-set_of.field-0 c.loop-bucket-test.true c.bucket-item.is
    c.loop-bucket.invariant (subst (λ ms. IsSetOf ms c.in_ok-set_of.field-0) c.as_slice.ensures c.in_ok-set_of.ensures))

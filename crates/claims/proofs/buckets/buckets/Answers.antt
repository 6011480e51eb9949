use Rattle.std.proofs.Common.{◌∙◌, ap, ℕ}
use Rattle.claims.specs.Buckets.{member_at, put_at}
use Rattle.claims.proofs.Turns.{puts-next}
use Rattle.claims.proofs.buckets.buckets.Goals as goal

pub loop-place-preserved : goal.loop-place-preserved
loop-place-preserved c =
    puts-next c.args.leaders.now c.args.owned.now c.loop-place.place c.index-owned-place.result c.loop-place.buckets.items c.put.new.buckets.items _ c.loop-place-test.true c.index-owned-place.is
    (c.in_ok-put.ensures ∙ ap (λ (l : ℕ). put_at c.loop-place.buckets.items l (member_at c.index-owned-place.result c.loop-place.place)) c.leader_at.ensures) c.loop-place.invariant

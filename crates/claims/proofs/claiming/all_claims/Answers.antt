use Rattle.std.proofs.Common.{◌∙◌}
use Rattle.claims.proofs.ClaimLemmas.{actions-next}
use Rattle.claims.proofs.claiming.all_claims.Goals as goal

pub loop-place-preserved : goal.loop-place-preserved
loop-place-preserved c =
    actions-next c.args.owned.now c.loop-place.place c.index-owned-place.result c.loop-place.claims.items c.claim_outputs.new.claims.items c.loop-place-test.true c.index-owned-place.is c.in_ok-claim_outputs.ensures
    ∙ c.loop-place.invariant

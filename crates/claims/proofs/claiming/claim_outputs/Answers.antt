use Rattle.std.proofs.Common.{◌∙◌}
use Rattle.claims.proofs.ClaimLemmas.{outputs-next}
use Rattle.claims.proofs.claiming.claim_outputs.Goals as goal

pub loop-file-preserved : goal.loop-file-preserved
loop-file-preserved c =
    outputs-next c.args.place c.label-label.result.now c.as_slice-files.result.now c.loop-file.file-index c.file-item.result c.loop-file.claims.items c.add_claim.new.claims.items
    c.loop-file-test.true c.file-item.is c.in_ok-add_claim.ensures
    ∙ c.loop-file.invariant

use Rattle.std.proofs.Common.{◌∙◌, ℕ, Option, None, ap, slice_index_or}
use Rattle.claims.specs.Tellings.{telling_by}
use Rattle.claims.specs.declared.sets.Shared.{Shared}
use Rattle.claims.proofs.Turns.{tellings-next}
use Rattle.claims.proofs.telling.tellings.Goals as goal

pub loop-place-preserved : goal.loop-place-preserved
loop-place-preserved c =
    let ls = c.args.leaders.now in let ss = c.args.sets.now in let i = c.loop-place.place in
    tellings-next ls ss c.args.owned.now i c.index-owned-place.result c.in_ok-telling_by.field-0 c.loop-place.tellings.items c.push.new.self.items _ c.loop-place-test.true c.index-owned-place.is
    (c.in_ok-telling_by.ensures
    ∙ ap (λ (s : Option Shared). telling_by s c.label.result.now) (c.set_at-set.ensures ∙ ap (λ (l : ℕ). slice_index_or ss l None) c.leader_at.ensures)
    ∙ ap (telling_by (slice_index_or ss (slice_index_or ls i i) None)) c.label.ensures)
    c.in_ok-push.ensures.items c.loop-place.invariant

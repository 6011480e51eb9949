use Rattle.std.proofs.Common.{◌≡◌, ◌+◌, drop, sym, ap, subst, ◌∙◌}
use Rattle.std.specs.Prelude.{Ok, option_copied}
use Rattle.ticks.specs.Ticking.{FaultOr}
use Rattle.values.specs.Visits.{all_of}
use Rattle.ticks.specs.declared.ticks.TheConstants.{VISITED_LEVELS}
use Rattle.visits.specs.Freeze.{freeze_at}
use Rattle.values.proofs.VisitLemmas.{with_done, all_of-next, all_of-fault}
use Rattle.frozen_modules.proofs.freezing.freeze_defaults.Goals as goal

pub returns-in-Err : goal.returns-in-Err
returns-in-Err c =
    let each = freeze_at VISITED_LEVELS c.args.heap.now in
    subst (λ r. FaultOr r c.in-Err.broken) c.loop-i.invariant
    (all_of-fault (all_of each) c.args.defaults.now c.loop-i.i c.in-Some.items.now (sym c.get.ensures ∙ ap option_copied c.in-Some.is)
    c.loop-i.kept c.loop-i.ticks c.in-Err.broken
    (subst (λ xs. FaultOr (all_of each xs c.loop-i.ticks) c.in-Err.broken) c.as_slice.ensures c.in-Err.ensures))

pub loop-i-preserved : goal.loop-i-preserved
loop-i-preserved c =
    let each = freeze_at VISITED_LEVELS c.args.heap.now in
    ap (λ l. with_done l (all_of (all_of each) (drop (c.loop-i.i + 1) c.args.defaults.now) c.freeze_items.new.ticks)) c.in_ok-push-in-Ok.ensures.ok
    ∙ all_of-next (all_of each) c.args.defaults.now c.loop-i.i c.in-Some.items.now (sym c.get.ensures ∙ ap option_copied c.in-Some.is)
    c.loop-i.kept c.loop-i.ticks c.in-Ok.trees c.freeze_items.new.ticks
    (subst (λ xs. all_of each xs c.loop-i.ticks ≡ Ok (c.in-Ok.trees, c.freeze_items.new.ticks)) c.as_slice.ensures c.in-Ok.ensures)
    ∙ c.loop-i.invariant

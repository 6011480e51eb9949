use Rattle.std.proofs.Common.{◌∙◌, ◌+◌, ◌-◌, length, sym, ap}
use Rattle.frames.specs.Kept.{defaults_seen}
use Rattle.call_stack.specs.Filled.{behind, rest_filled}
use Rattle.call_stack.proofs.Positions.{default_fails, default_turn}
use Rattle.call_stack.proofs.filling.fill_defaults.Goals as goal

pub returns-in-None : goal.returns-in-None
returns-in-None c =
    default_fails c.args.params.now (defaults_seen c.args.defaults) c.loop-index.index c.saturating_sub-without.result c.loop-index.slots
    c.loop-index-test.true (c.saturating_sub-without.ensures ∙ ap (λ n. length c.args.params.now - n) c.len.ensures)
    (sym c.in_ok-value.ensures ∙ c.in-None.is)
    ∙ c.loop-index.invariant

pub loop-index-preserved : goal.loop-index-preserved
loop-index-preserved c =
    ap (λ l. behind l (rest_filled c.args.params.now (c.loop-index.index + 1) (defaults_seen c.args.defaults))) c.in_ok-push-in-Some.ensures
    ∙ (default_turn c.args.params.now (defaults_seen c.args.defaults) c.loop-index.index c.saturating_sub-without.result c.loop-index.slots
    c.loop-index-test.true (c.saturating_sub-without.ensures ∙ ap (λ n. length c.args.params.now - n) c.len.ensures)
    c.in-Some.value (sym c.in_ok-value.ensures ∙ c.in-Some.is)
    ∙ c.loop-index.invariant)

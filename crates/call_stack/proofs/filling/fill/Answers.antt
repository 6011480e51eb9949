use Rattle.std.proofs.Common.{◌∙◌, ◌+◌, ◌-◌, drop, length, sym, ap}
use Rattle.meaning.specs.Entry.{defaults_of, filled, paired}
use Rattle.call_stack.specs.Filled.{behind, got}
use Rattle.frames.specs.Kept.{defaults_seen}
use Rattle.call_stack.proofs.Parameters.{fill_turn, fill_fails}
use Rattle.call_stack.proofs.filling.fill.Goals as goal

pub returns-in-None : goal.returns-in-None
returns-in-None c =
    fill_fails c.args.params.now (defaults_seen c.args.defaults) c.loop-index.index c.saturating_sub-without.result c.loop-index.slots c.loop-index.items c.pop.new.self
    (paired c.args.names.now c.args.named.now) c.index-params-index.result c.pop.result c.loop-index-test.true (c.saturating_sub-without.ensures ∙ ap (λ n. length c.args.params.now - n) c.len.ensures) c.index-params-index.is c.pop.ensures
    (ap (got c.index-params-index.result c.pop.result (paired c.args.names.now c.args.named.now)) (sym c.default_of-default.ensures)
    ∙ (sym c.in_ok-value.ensures ∙ c.in-None.is)) ∙ c.loop-index.invariant

pub loop-index-preserved : goal.loop-index-preserved
loop-index-preserved c =
    ap (λ l. behind l (filled (drop (c.loop-index.index + 1) c.args.params.now) c.pop.new.self (paired c.args.names.now c.args.named.now)
    (drop (c.loop-index.index + 1) (defaults_of c.args.params.now (defaults_seen c.args.defaults))))) c.in_ok-push-in-Some.ensures
    ∙ (fill_turn c.args.params.now (defaults_seen c.args.defaults) c.loop-index.index c.saturating_sub-without.result c.loop-index.slots c.loop-index.items c.pop.new.self
    (paired c.args.names.now c.args.named.now) c.index-params-index.result c.pop.result c.loop-index-test.true (c.saturating_sub-without.ensures ∙ ap (λ n. length c.args.params.now - n) c.len.ensures) c.index-params-index.is c.pop.ensures
    c.in-Some.value
    (ap (got c.index-params-index.result c.pop.result (paired c.args.names.now c.args.named.now)) (sym c.default_of-default.ensures)
    ∙ (sym c.in_ok-value.ensures ∙ c.in-Some.is)) ∙ c.loop-index.invariant)

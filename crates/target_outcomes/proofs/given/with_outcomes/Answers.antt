use Rattle.std.proofs.Common.{◌∙◌, option_map, sym, ap, arith}
use Rattle.analysis.specs.Seen.{dependency_seen}
use Rattle.target_outcomes.proofs.Lists.{one_more, none_left, none_due, all_given}
use Rattle.target_outcomes.proofs.given.with_outcomes.Goals as goal

pub returns-in_default : goal.returns-in_default
returns-in_default c =
    let ls = c.args.needed.now in let n = c.loop-place.place in
    all_given c.loop-place.given.items _ _ c.loop-place.invariant
    (none_left n ls c.index-outcomes-place.result.now _ (sym c.dependency.ensures ∙ ap (option_map dependency_seen) c.in_default.is))

pub loop-place-preserved : goal.loop-place-preserved
loop-place-preserved c =
    one_more c.loop-place.given.items c.push.new.self.items c.in-Some.dependency c.loop-place.place c.args.needed.now c.args.outcomes.now
    c.index-outcomes-place.result _ c.loop-place-test.true c.index-outcomes-place.is
    (ap (option_map dependency_seen) (sym c.in-Some.is) ∙ c.dependency.ensures) c.in_ok-push.ensures.items c.loop-place.invariant

pub returns : goal.returns
returns c =
    all_given c.loop-place.given.items _ _ c.loop-place.invariant
    (none_due c.loop-place.place c.args.needed.now c.args.outcomes.now (omega (arith, c.loop-place-test.false)))

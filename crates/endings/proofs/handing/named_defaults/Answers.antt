use Rattle.std.proofs.Common.{◌++◌, [], ◌∷◌, length, map, refl, ap, ◌∙◌}
use Rattle.std.proofs.lemmas.Option.{slice_get_read}
use Rattle.values.specs.Shape.{value_of}
use Rattle.evaluation.specs.Naming.{named}
use Rattle.endings.proofs.Renamed.{map_next}
use Rattle.endings.proofs.handing.named_defaults.Goals as goal

pub loop-trees-preserved : goal.loop-trees-preserved
loop-trees-preserved c =
    let one = map (λ t. value_of (named c.args.naming.now t)) in
    c.in_ok-push.ensures.ok ∙ (λ j. c.loop-trees.invariant j ++ (c.in_ok-items.ensures ∙ ap one c.as_slice.ensures) j ∷ [])
    ∙ map_next one c.args.defaults.now c.loop-trees.trees-index c.trees-item.result (slice_get_read c.args.defaults.now (length c.args.defaults.now) c.loop-trees.trees-index c.trees-item.result refl c.loop-trees-test.true c.trees-item.is)

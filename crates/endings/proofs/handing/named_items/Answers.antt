use Rattle.std.proofs.Common.{◌++◌, [], ◌∷◌, length, refl, ap, ◌∙◌}
use Rattle.std.proofs.lemmas.Option.{slice_get_read}
use Rattle.values.specs.Shape.{value_of}
use Rattle.evaluation.specs.Naming.{named}
use Rattle.endings.proofs.Renamed.{map_next}
use Rattle.endings.proofs.handing.named_items.Goals as goal

pub loop-tree-preserved : goal.loop-tree-preserved
loop-tree-preserved c =
    c.in_ok-put_named.ensures ∙ ap (λ l. l ++ value_of (named c.args.naming.now c.tree-item.result) ∷ []) c.loop-tree.invariant
    ∙ map_next (λ t. value_of (named c.args.naming.now t)) c.args.trees.now c.loop-tree.tree-index c.tree-item.result (slice_get_read c.args.trees.now (length c.args.trees.now) c.loop-tree.tree-index c.tree-item.result refl c.loop-tree-test.true c.tree-item.is)

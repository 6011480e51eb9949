use Rattle.std.proofs.Common.{◌∙◌, refl, ap}
use Rattle.grammar.specs.TreeView.{tree_of}
use Rattle.grammar.proofs.Seen.{seen_more, arguments_same, in_order_true, in_order_false}
use Rattle.grammar.proofs.parts.with_positional.Goals as goal
use Rattle.grammar.proofs.parts.with_positional.Goals.{then-in_order, else-in_order}

pub returns : goal.returns
returns c =
    let value = ap tree_of c.into_inner.ensures in
    arguments_same (seen_more tree_of _ _ c.in_ok-add_one.ensures value) refl c.max.ensures (elim c.if-in_order.branch [
      | then-in_order w ↦ in_order_true _ w.if-in_order.true (w.in_order-is ∙ w.is_empty-in_order.ensures) c.args.arguments.named.ok.0
      | else-in_order w ↦ in_order_false _ w.if-in_order.false w.in_order-is
    ])

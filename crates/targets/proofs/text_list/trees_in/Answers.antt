use Rattle.std.proofs.Common.{◌≡◌, None, Some, sym, ap, ◌∙◌}
use Rattle.values.specs.Seeing.{item_value}
use Rattle.values.specs.Shape.{Shape}
use Rattle.targets.specs.RuleCalls.{each_of}
use Rattle.targets.specs.TextLists.{text_seen, text_frozen}
use Rattle.targets.proofs.Reading.{behind, read, unread}
use Rattle.targets.proofs.text_list.trees_in.Goals as goal

pub returns-in-None-2 : goal.returns-in-None-2
returns-in-None-2 c =
    let f = text_frozen c.args.heap.now in
    let x = item_value c.in-Some.item in
    let e : f x ≡ None = ap (λ (s : Shape). text_seen s) (sym c.see_item.ensures) ∙ sym c.in_ok-tree.ensures ∙ c.in-None-2.is in
    sym c.loop-item.invariant ∙ unread f c.in-Some.ensures.steps c.loop-item.trees.items e

pub loop-item-preserved : goal.loop-item-preserved
loop-item-preserved c =
    let f = text_frozen c.args.heap.now in
    let x = item_value c.in-Some.item in
    let e : f x ≡ Some c.in-Some-2.tree = ap (λ (s : Shape). text_seen s) (sym c.see_item.ensures) ∙ sym c.in_ok-tree.ensures ∙ c.in-Some-2.is in
    ap (λ ys. behind ys (each_of f c.next.new.self)) c.in_ok-push-in-Some-2.ensures.items
    ∙ read f c.in-Some.ensures.steps c.loop-item.trees.items c.in-Some-2.tree e ∙ c.loop-item.invariant

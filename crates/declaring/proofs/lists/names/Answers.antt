use Rattle.std.proofs.Common.{◌≡◌, None, Some, sym, ap, ◌∙◌}
use Rattle.values.specs.Shape.{Shape, shape}
use Rattle.values.specs.Seeing.{item_value}
use Rattle.values.specs.declared.value.Value.{Value}
use Rattle.targets.specs.RuleCalls.{each_of}
use Rattle.declaring.specs.NewNames.{name_in}
use Rattle.targets.proofs.Reading.{behind, read, unread}
use Rattle.declaring.proofs.lists.names.Goals as goal

pub returns-in-None-2 : goal.returns-in-None-2
returns-in-None-2 c =
    let f = λ (v : Value). name_in (shape c.args.heap.now v) in
    let e : f (item_value c.in-Some.item) ≡ None = ap (λ (s : Shape). name_in s) (sym c.see_item.ensures) ∙ sym c.in_ok-name.ensures ∙ c.in-None-2.is in
    sym (unread f c.in-Some.ensures.steps c.loop-item.names e) ∙ c.loop-item.invariant

pub loop-item-preserved : goal.loop-item-preserved
loop-item-preserved c =
    let f = λ (v : Value). name_in (shape c.args.heap.now v) in
    let e : f (item_value c.in-Some.item) ≡ Some c.in-Some-2.name = ap (λ (s : Shape). name_in s) (sym c.see_item.ensures) ∙ sym c.in_ok-name.ensures ∙ c.in-Some-2.is in
    ap (λ ys. behind ys (each_of f c.next.new.self)) c.in_ok-push-in-Some-2.ensures.ok
    ∙ read f c.in-Some.ensures.steps c.loop-item.names c.in-Some-2.name e ∙ c.loop-item.invariant

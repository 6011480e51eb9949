use Rattle.std.proofs.Common.{◌≡◌, None, Some, sym, ap, ◌∙◌}
use Rattle.values.specs.Seeing.{item_value}
use Rattle.values.specs.Shape.{Shape}
use Rattle.keys.specs.declared.key.Key.{Key}
use Rattle.values.specs.declared.value.Value.{Value}
use Rattle.targets.specs.RuleCalls.{each_of}
use Rattle.targets.specs.TextDicts.{value_shown, value_frozen}
use Rattle.targets.proofs.Reading.{behind, read, unread}
use Rattle.targets.proofs.text_dict.values_in.Goals as goal

pub returns-in-None-2 : goal.returns-in-None-2
returns-in-None-2 c =
    let f = value_frozen c.args.heap.now in
    let x : Key × Value = (c.in-Some.key.now, item_value c.in-Some.item) in
    let e : f x ≡ None = ap (λ (s : Shape). value_shown c.in-Some.key.now s) (sym c.see_item.ensures) ∙ sym c.in_ok-value.ensures ∙ c.in-None-2.is in
    sym c.loop-key.invariant ∙ unread f c.in-Some.ensures.steps c.loop-key.values.items e

pub loop-key-preserved : goal.loop-key-preserved
loop-key-preserved c =
    let f = value_frozen c.args.heap.now in
    let x : Key × Value = (c.in-Some.key.now, item_value c.in-Some.item) in
    let e : f x ≡ Some c.in-Some-2.value = ap (λ (s : Shape). value_shown c.in-Some.key.now s) (sym c.see_item.ensures) ∙ sym c.in_ok-value.ensures ∙ c.in-Some-2.is in
    ap (λ ys. behind ys (each_of f c.next.new.self)) c.in_ok-push-in-Some-2.ensures.items
    ∙ read f c.in-Some.ensures.steps c.loop-key.values.items c.in-Some-2.value e ∙ c.loop-key.invariant

use Rattle.std.proofs.Common.{◌≡◌, None, Some, sym, ap, ◌∙◌}
use Rattle.values.specs.Seeing.{item_value}
use Rattle.targets.specs.RuleCalls.{each_of}
use Rattle.declaring.specs.RuleMaking.{attribute_entry}
use Rattle.targets.proofs.Reading.{behind, read, unread}
use Rattle.declaring.proofs.attributes_of_rules.named_attributes.Goals as goal

pub returns-in-None-2 : goal.returns-in-None-2
returns-in-None-2 g c =
    let f = attribute_entry (g.A.Attributes.declared c.args.known.now.linked.now) c.args.known.now.state.now c.args.known.now.declared.now in
    let e : f (c.in-Some.key.now, item_value c.in-Some.value) ≡ None = sym c.in_ok-attribute.ensures ∙ c.in-None-2.is in
    sym (unread f c.in-Some.ensures.steps c.loop-key.named e)
    ∙ c.loop-key.invariant

pub loop-key-preserved : goal.loop-key-preserved
loop-key-preserved g c =
    let f = attribute_entry (g.A.Attributes.declared c.args.known.now.linked.now) c.args.known.now.state.now c.args.known.now.declared.now in
    let e : f (c.in-Some.key.now, item_value c.in-Some.value) ≡ Some c.in-Some-2.attribute = sym c.in_ok-attribute.ensures ∙ c.in-Some-2.is in
    ap (λ ys. behind ys (each_of f c.next.new.self)) c.in_ok-push-in-Some-2.ensures.ok
    ∙ read f c.in-Some.ensures.steps c.loop-key.named c.in-Some-2.attribute e ∙ c.loop-key.invariant

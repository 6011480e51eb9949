use Rattle.std.proofs.Common.{◌≡◌, None, Some, sym, ap, ◌∙◌}
use Rattle.values.specs.Seeing.{item_value}
use Rattle.targets.specs.RuleCalls.{each_of}
use Rattle.declaring.specs.ProviderCalls.{documented_name}
use Rattle.targets.proofs.Reading.{behind, read, unread}
use Rattle.declaring.proofs.fields.documented_names.Goals as goal

pub returns-in-None-2 : goal.returns-in-None-2
returns-in-None-2 c =
    let f = documented_name c.args.heap.now in
    let e : f (c.in-Some.key.now, item_value c.in-Some.value) ≡ None = sym c.in_ok-name.ensures ∙ c.in-None-2.is in
    sym (unread f c.in-Some.ensures.steps c.loop-key.names e)
    ∙ c.loop-key.invariant

pub loop-key-preserved : goal.loop-key-preserved
loop-key-preserved c =
    let f = documented_name c.args.heap.now in
    let e : f (c.in-Some.key.now, item_value c.in-Some.value) ≡ Some c.in-Some-2.name = sym c.in_ok-name.ensures ∙ c.in-Some-2.is in
    ap (λ ys. behind ys (each_of f c.next.new.self)) c.in_ok-push-in-Some-2.ensures.ok
    ∙ read f c.in-Some.ensures.steps c.loop-key.names c.in-Some-2.name e ∙ c.loop-key.invariant

use Rattle.std.proofs.Common.{◌≡◌, IfOk, sym, subst}
use Rattle.values.specs.Seeing.{seen}
use Rattle.leaves.specs.declared.leaf.AttributeKind.{AttributeKind}
use Rattle.declaring.specs.AttributeCalls.{default_typed}
use Rattle.declaring.proofs.defaults.default_typed.Goals as goal

pub returns-in-String : goal.returns-in-String
returns-in-String c =
    let h = c.args.heap.now in
    subst (λ (k : AttributeKind). IfOk c.text_default.result (λ o. o ≡ default_typed h k (seen c.args.value.now))) (sym c.in-String.is) (c.text_default.ensures h)

pub returns-in-Int : goal.returns-in-Int
returns-in-Int c =
    let h = c.args.heap.now in
    subst (λ (k : AttributeKind). c.number_default.result ≡ default_typed h k (seen c.args.value.now)) (sym c.in-Int.is) (c.number_default.ensures h)

pub returns-in-Bool : goal.returns-in-Bool
returns-in-Bool c =
    let h = c.args.heap.now in
    subst (λ (k : AttributeKind). c.truth_default.result ≡ default_typed h k (seen c.args.value.now)) (sym c.in-Bool.is) (c.truth_default.ensures h)

pub returns-in-Label : goal.returns-in-Label
returns-in-Label c =
    let h = c.args.heap.now in
    subst (λ (k : AttributeKind). IfOk c.label_default.result (λ o. o ≡ default_typed h k (seen c.args.value.now))) (sym c.in-Label.is) (c.label_default.ensures h)

use Rattle.std.proofs.Common.{sym, refl}
use Rattle.values.specs.Seeing.{seen}
use Rattle.leaves.specs.declared.leaf.AttributeKind.TheVariants as kind
use Rattle.rule_calls.proofs.Typed.{typed-seen}
use Rattle.rule_calls.proofs.typing.typed_shown.Goals as goal

pub returns-in-String : goal.returns-in-String
returns-in-String c =
    let h = c.args.heap.now in let p = c.args.«package».now in let ks = c.args.attribute.now.values in
    typed-seen h p kind.String c.args.attribute.now.kind ks c.args.attribute.now.values (seen c.args.value.now) (seen c.args.value.now) c.text_value.result
    (sym c.in-String.is) refl refl (c.text_value.ensures h p)

pub returns-in-Int : goal.returns-in-Int
returns-in-Int c =
    let h = c.args.heap.now in let p = c.args.«package».now in let ks = c.args.attribute.now.values in
    typed-seen h p kind.Int c.args.attribute.now.kind ks c.args.attribute.now.values (seen c.args.value.now) (seen c.args.value.now) c.number_value.result
    (sym c.in-Int.is) refl refl (c.number_value.ensures h p)

pub returns-in-Bool : goal.returns-in-Bool
returns-in-Bool c =
    let h = c.args.heap.now in let p = c.args.«package».now in let ks = c.args.attribute.now.values in
    typed-seen h p kind.Bool c.args.attribute.now.kind ks c.args.attribute.now.values (seen c.args.value.now) (seen c.args.value.now) c.truth_value.result
    (sym c.in-Bool.is) refl refl (c.truth_value.ensures h p ks)

pub returns-in-StringList : goal.returns-in-StringList
returns-in-StringList c =
    let h = c.args.heap.now in let p = c.args.«package».now in let ks = c.args.attribute.now.values in
    typed-seen h p kind.StringList c.args.attribute.now.kind ks c.args.attribute.now.values (seen c.args.value.now) (seen c.args.value.now) c.strings_value.result
    (sym c.in-StringList.is) refl refl (c.strings_value.ensures p ks)

pub returns-in-StringDict : goal.returns-in-StringDict
returns-in-StringDict c =
    let h = c.args.heap.now in let p = c.args.«package».now in let ks = c.args.attribute.now.values in
    typed-seen h p kind.StringDict c.args.attribute.now.kind ks c.args.attribute.now.values (seen c.args.value.now) (seen c.args.value.now) c.dict_value.result
    (sym c.in-StringDict.is) refl refl (c.dict_value.ensures p ks)

pub returns-in-Label : goal.returns-in-Label
returns-in-Label c =
    let h = c.args.heap.now in let p = c.args.«package».now in let ks = c.args.attribute.now.values in
    typed-seen h p kind.Label c.args.attribute.now.kind ks c.args.attribute.now.values (seen c.args.value.now) (seen c.args.value.now) c.label_value.result
    (sym c.in-Label.is) refl refl (c.label_value.ensures h ks)

pub returns-in-LabelList : goal.returns-in-LabelList
returns-in-LabelList c =
    let h = c.args.heap.now in let p = c.args.«package».now in let ks = c.args.attribute.now.values in
    typed-seen h p kind.LabelList c.args.attribute.now.kind ks c.args.attribute.now.values (seen c.args.value.now) (seen c.args.value.now) c.labels_value.result
    (sym c.in-LabelList.is) refl refl (c.labels_value.ensures ks)

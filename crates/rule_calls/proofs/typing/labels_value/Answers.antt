use Rattle.std.proofs.Common.{Ok, sym, ap, ◌∙◌, subst}
use Rattle.std.proofs.lemmas.Result.{err_from_is_err_and}
use Rattle.values.specs.Seeing.{seen, group_items}
use Rattle.values.specs.Shape.{shape}
use Rattle.ticks.specs.Ticking.{FaultOr}
use Rattle.leaves.specs.declared.leaf.AttributeKind.TheVariants as kind
use Rattle.values.specs.declared.sees.Seen.{Seen}
use Rattle.ticks.specs.declared.ticks.Kind.TheVariants.{Wrong}
use Rattle.values.specs.declared.value.Value.{Value}
use Rattle.operations.specs.Items.{or_fault}
use Rattle.targets.specs.RuleCalls.{typed}
use Rattle.targets.specs.declared.attributes.AttributeValue.TheVariants as has
use Rattle.targets.specs.RuleCalls.{label_in}
use Rattle.rule_calls.proofs.Adding.{made_of_each, fault_of_each}
use Rattle.rule_calls.proofs.typing.labels_value.Goals as goal

pub returns : goal.returns
returns c = λ ks.
    let h = c.args.heap.now in let p = c.args.«package».now in
    ap (λ (s : Seen). or_fault Wrong (typed h p kind.LabelList ks (seen s))) c.in-List.is
    ∙ made_of_each (λ (v : Value). label_in h p (shape h v)) has.Labels (group_items c.in-List.items) c.in_ok-read.read c.in_ok-read.ensures
    ∙ ap (λ ts. Ok (has.Labels ts)) (sym c.in_ok-labels.ensures)

pub returns-in_err-read : goal.returns-in_err-read
returns-in_err-read c = λ ks.
    let h = c.args.heap.now in let p = c.args.«package».now in
    let same = err_from_is_err_and c.from_residual.result c.from_residual.ensures.1 in
    rw (same.1, same.2) (subst (λ (s : Seen). FaultOr (or_fault Wrong (typed h p kind.LabelList ks (seen s))) c.in_err-read.field-0.0) (sym c.in-List.is)
    (fault_of_each (λ (v : Value). label_in h p (shape h v)) has.Labels (group_items c.in-List.items) c.in_err-read.field-0.0 c.in_err-read.ensures))

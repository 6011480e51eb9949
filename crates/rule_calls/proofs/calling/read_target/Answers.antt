use Rattle.std.proofs.Common.{◌≡◌, ◌∙◌, [], Result, ap, sym, subst}
use Rattle.std.proofs.lemmas.Result.{err_from_is_err_and}
use Rattle.ticks.specs.Ticking.{FaultOr}
use Rattle.ticks.specs.declared.ticks.Kind.{Kind}
use Rattle.ticks.specs.declared.ticks.Kind.TheVariants.{Wrong}
use Rattle.operations.specs.Items.{or_fault}
use Rattle.operations.specs.States.{Gives}
use Rattle.targets.specs.RuleCalls.{label_from, value_for}
use Rattle.targets.specs.declared.attributes.Rule.{Rule}
use Rattle.targets.specs.declared.target.Target.{Target}
use Rattle.rule_calls.specs.Each.{added}
use Rattle.rule_calls.proofs.Steps.{read-both, read-fault}
use Rattle.rule_calls.proofs.calling.read_target.Goals as goal

pub returns : goal.returns
returns c =
    let h = c.args.heap.now in let d = c.args.declared.now in let r = c.args.rule.now in let g = c.args.arguments.now in
    let attributes : c.get.result.now.attributes ≡ r.attributes = ap (λ (x : Rule). x.attributes) c.get.ensures in
    subst (λ (x : Result Target Kind). Gives x c.new_target.result)
    (sym (read-both h d r g c.in_ok-label.label c.in_ok-values.values
    ((λ i. or_fault Wrong (label_from h (sym c.package-package.ensures i) (sym c.given_as-name.ensures i))) ∙ c.in_ok-label.ensures)
    ((λ i. added (value_for h (sym c.new-here.ensures i) g) [] (sym attributes i)) ∙ c.in_ok-values.ensures)))
    c.new_target.ensures

pub returns-in_err-values : goal.returns-in_err-values
returns-in_err-values c =
    let h = c.args.heap.now in let d = c.args.declared.now in let r = c.args.rule.now in let g = c.args.arguments.now in
    let attributes : c.get.result.now.attributes ≡ r.attributes = ap (λ (x : Rule). x.attributes) c.get.ensures in
    let same = err_from_is_err_and c.from_residual-in_err-values.result c.from_residual-in_err-values.ensures.1 in
    rw (same.1, same.2) (read-fault h d r g c.in_err-values.field-0.0
    (subst (λ x. FaultOr x c.in_err-values.field-0.0) (λ i. added (value_for h (c.new-here.ensures i) g) [] (attributes i)) c.in_err-values.ensures))

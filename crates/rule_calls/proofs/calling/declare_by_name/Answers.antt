use Rattle.std.proofs.Common.{◌≡◌, ◌∙◌, true, refl, ap, sym, subst}
use Rattle.ticks.specs.Ticking.{FaultOr}
use Rattle.targets.specs.RuleCalls.{fits}
use Rattle.targets.specs.declared.attributes.Rule.{Rule}
use Rattle.rule_arguments.specs.Freezing.{frozen_for}
use Rattle.rule_calls.proofs.Steps.{declares-ok, declares-fault}
use Rattle.rule_calls.proofs.calling.declare_by_name.Goals as goal

pub returns-in-Ok : goal.returns-in-Ok
returns-in-Ok c =
    let d = c.args.declared.now in let r = c.args.rule.now in let g = c.args.arguments.now in let s = c.args.state.now in
    let attributes : c.as_slice-attributes.result.now ≡ r.attributes = c.as_slice-attributes.ensures ∙ ap (λ (x : Rule). x.attributes) c.get-2.ensures in
    let fit : fits r g ≡ true = ap (λ (x : Rule). fits x g) (sym c.get.ensures) ∙ sym c.fits.ensures ∙ c.if-not-fits.false in
    declares-ok d r g s c.in_ok-target.target c.freeze_given.new.ticks fit c.in_ok-target.ensures
    (ap (λ x. frozen_for x g s.heap s.ticks) (sym attributes) ∙ c.in-Ok.ensures)

pub returns-in-Err : goal.returns-in-Err
returns-in-Err c =
    let d = c.args.declared.now in let r = c.args.rule.now in let g = c.args.arguments.now in let s = c.args.state.now in
    let attributes : c.as_slice-attributes.result.now ≡ r.attributes = c.as_slice-attributes.ensures ∙ ap (λ (x : Rule). x.attributes) c.get-2.ensures in
    let fit : fits r g ≡ true = ap (λ (x : Rule). fits x g) (sym c.get.ensures) ∙ sym c.fits.ensures ∙ c.if-not-fits.false in (
      (refl, refl),
      declares-fault d r g s c.in_ok-target.target c.in-Err.broken fit c.in_ok-target.ensures
          (subst (λ x. FaultOr (frozen_for x g s.heap s.ticks) c.in-Err.broken) attributes c.in-Err.ensures),
    )

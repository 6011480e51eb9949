use Rattle.std.proofs.Common.{◌≡◌, ◌∙◌, true, false, ap, sym}
use Rattle.std.specs.Map.{lookup}
use Rattle.std.specs.Str.{bytes_eq}
use Rattle.targets.specs.Resolving.{target_with}
use Rattle.rule_calls.specs.Packages.{Declared}
use Rattle.rule_calls.proofs.Named.{found_here, none_elsewhere}
use Rattle.rule_calls.proofs.by_name.PackageTargets.get.Goals as goal

pub returns-then-eq : goal.returns-then-eq
returns-then-eq c =
    let l = c.args.label.now in let p = c.self.inside.«package» in let es = c.self.inside.by_name.entries in
    let here : bytes_eq l.«package» p ≡ true = (λ i. bytes_eq (sym c.package.ensures i) (sym c.as_str.ensures i)) ∙ sym c.eq.ensures ∙ c.if-eq.true in
    c.get.ensures.value ∙ ap (λ x. lookup (bytes_eq x) es) c.name.ensures ∙ found_here p l es c.self.invariant here
    ∙ ap (λ (d : Declared). target_with l d.targets) c.self.view_is

pub returns-else-eq : goal.returns-else-eq
returns-else-eq c =
    let l = c.args.label.now in let p = c.self.inside.«package» in let es = c.self.inside.by_name.entries in
    let other : bytes_eq l.«package» p ≡ false = (λ i. bytes_eq (sym c.package.ensures i) (sym c.as_str.ensures i)) ∙ sym c.eq.ensures ∙ c.if-eq.false in
    none_elsewhere p l es c.self.invariant other ∙ ap (λ (d : Declared). target_with l d.targets) c.self.view_is

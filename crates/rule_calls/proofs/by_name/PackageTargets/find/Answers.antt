use Rattle.std.proofs.Common.{◌≡◌, ◌∙◌, ℕ, true, false, List, Some, ap, sym}
use Rattle.std.specs.Prelude.{slice_get, option_map}
use Rattle.std.specs.Map.{lookup}
use Rattle.std.specs.Str.{bytes_eq}
use Rattle.std.proofs.lemmas.Option.{slice_get-map}
use Rattle.targets.specs.Resolving.{target_with}
use Rattle.targets.specs.declared.target.Target.{Target}
use Rattle.rule_calls.specs.Packages.{Declared}
use Rattle.rule_calls.proofs.Named.{found_here, none_elsewhere}
use Rattle.rule_calls.proofs.by_name.PackageTargets.find.Goals as goal

pub returns-in-Some : goal.returns-in-Some
returns-in-Some c =
    let l = c.args.label.now in let p = c.self.inside.«package» in let es = c.self.inside.by_name.entries in
    let here : bytes_eq l.«package» p ≡ true = (λ i. bytes_eq (sym c.package.ensures i) (sym c.as_str.ensures i)) ∙ sym c.eq.ensures ∙ c.if-eq.true in
    let named : Some c.in-Some.target.now ≡ target_with l c.args.self.now.targets =
    c.in-Some.ensures.value ∙ ap (λ x. lookup (bytes_eq x) es) c.name.ensures ∙ found_here p l es c.self.invariant here
    ∙ ap (λ (d : Declared). target_with l d.targets) c.self.view_is in
    let placed : slice_get c.args.self.now.targets c.in-Some.place ≡ Some c.in-Some.target.now =
    ap (λ (d : Declared). slice_get d.targets c.in-Some.place) (sym c.self.view_is)
    ∙ slice_get-map (λ (e : List ℕ × Target). e.1) es c.in-Some.place
    ∙ ap (option_map (λ (e : List ℕ × Target). e.1)) c.in-Some.ensures.entry in
    (sym named, placed)

pub returns-in-None : goal.returns-in-None
returns-in-None c =
    let l = c.args.label.now in let p = c.self.inside.«package» in let es = c.self.inside.by_name.entries in
    let here : bytes_eq l.«package» p ≡ true = (λ i. bytes_eq (sym c.package.ensures i) (sym c.as_str.ensures i)) ∙ sym c.eq.ensures ∙ c.if-eq.true in
    sym (c.in-None.ensures.value ∙ ap (λ x. lookup (bytes_eq x) es) c.name.ensures ∙ found_here p l es c.self.invariant here
    ∙ ap (λ (d : Declared). target_with l d.targets) c.self.view_is)

pub returns-else-eq : goal.returns-else-eq
returns-else-eq c =
    let l = c.args.label.now in let p = c.self.inside.«package» in let es = c.self.inside.by_name.entries in
    let other : bytes_eq l.«package» p ≡ false = (λ i. bytes_eq (sym c.package.ensures i) (sym c.as_str.ensures i)) ∙ sym c.eq.ensures ∙ c.if-eq.false in
    sym (none_elsewhere p l es c.self.invariant other ∙ ap (λ (d : Declared). target_with l d.targets) c.self.view_is)

use Rattle.std.proofs.Common.{◌≡◌, ◌∙◌, ◌++◌, ◌∷◌, [], ℕ, true, false, List, map, ap, sym, subst}
use Rattle.std.specs.Str.{bytes_eq}
use Rattle.indexmap.specs.IndexMap.{insert_entry}
use Rattle.targets.specs.RuleCalls.{has_declared}
use Rattle.targets.specs.declared.target.Target.{Target}
use Rattle.rule_calls.specs.Packages.{Declared, are_named, declared_of}
use Rattle.rule_calls.proofs.Named.{put_last, all_named, targets_last}
use Rattle.rule_calls.proofs.by_name.PackageTargets.push.Goals as goal

pub invariant_of-self-2 : goal.invariant_of-self-2
invariant_of-self-2 c =
    let p = c.self.inside.«package» in let es = c.self.inside.by_name.entries in let t = c.args.target in
    let here : t.label.«package» ≡ p = c.requires.here ∙ ap (λ (d : Declared). d.«package») (sym c.self.view_is) in
    let new : has_declared (map (λ e. e.1) es) t.label ≡ false = ap (λ (d : Declared). has_declared d.targets t.label) c.self.view_is ∙ c.requires.new in
    let after : es ++ (t.label.name, t) ∷ [] ≡ c.insert.new.self.entries = sym (c.in_ok-insert.ensures.entries ∙ ap (λ x. insert_entry bytes_eq es x t) c.in_ok-name.ensures ∙ put_last p es t c.self.invariant here new) in
    subst (λ (fs : List (List ℕ × Target)). are_named p fs ≡ true) after (all_named p es t c.self.invariant here)

pub returns-clause-ok : goal.returns-clause-ok
returns-clause-ok c =
    let p = c.self.inside.«package» in let es = c.self.inside.by_name.entries in let t = c.args.target in
    let here : t.label.«package» ≡ p = c.requires.here ∙ ap (λ (d : Declared). d.«package») (sym c.self.view_is) in
    let new : has_declared (map (λ e. e.1) es) t.label ≡ false = ap (λ (d : Declared). has_declared d.targets t.label) c.self.view_is ∙ c.requires.new in
    let after : c.insert.new.self.entries ≡ es ++ (t.label.name, t) ∷ [] = c.in_ok-insert.ensures.entries ∙ ap (λ x. insert_entry bytes_eq es x t) c.in_ok-name.ensures ∙ put_last p es t c.self.invariant here new in
    ap (declared_of p) after ∙ ap (λ (ts : List Target). record { «package» = p; targets = ts }) (targets_last p es t)
    ∙ ap (λ (d : Declared). record { «package» = d.«package»; targets = d.targets ++ t ∷ [] }) c.self.view_is

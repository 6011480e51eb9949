use Rattle.std.proofs.Common.{◌≡◌, ◌∙◌, ℕ, List, Some, codes, false, ap, sym}
use Rattle.std.proofs.lemmas.Str.Pattern.{starts_text}
use Rattle.std.specs.Prelude.{nat_eq}
use Rattle.std.specs.List.{starts_with}
use Rattle.workspace.proofs.LabelLemmas.{label_parts-relative}
use Rattle.rule_calls.proofs.here.relative_name.Goals as goal

pub returns : goal.returns
returns c = λ p.
    let t = c.args.text.now in
    let other : starts_with nat_eq t (codes "//") ≡ false = sym (starts_text c.starts_with.result (codes "//") t c.starts_with.ensures.cases) ∙ c.if-starts_with.false in
    sym (label_parts-relative t (Some p) other) ∙ ap (λ (n : List ℕ). Some (record { «package» = p; name = n })) (sym c.without_colon.ensures)

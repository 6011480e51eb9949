use Rattle.std.proofs.Common.{◌∙◌, ℕ, List, ap}
use Rattle.std.proofs.lemmas.Str.Pattern.{ends_text}
use Rattle.std.specs.Prelude.{nat_eq}
use Rattle.std.specs.List.{ends_with}
use Rattle.analysis.proofs.checks.ends_with.Goals as goal

pub returns : goal.returns
returns c =
    ends_text c.ends_with.result c.as_str.result.now c.args.path.now c.ends_with.ensures.cases
    ∙ ap (λ (e : List ℕ). ends_with nat_eq c.args.path.now e) c.as_str.ensures

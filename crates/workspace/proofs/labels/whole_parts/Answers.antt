use Rattle.std.proofs.Common.{◌∙◌, None, lit<, ap, sym}
use Rattle.std.proofs.lemmas.Str.Pattern.{split_parts}
use Rattle.workspace.proofs.LabelLemmas.{whole_parts-package}
use Rattle.workspace.proofs.labels.whole_parts.Goals as goal

pub returns-in-None : goal.returns-in-None
returns-in-None c =
    whole_parts-package c.args.rest.now (split_parts 58 c.args.rest.now None c.in-None.ensures.cases (lit< tt))
    ∙ ap (λ n. record { «package» = c.args.rest.now; name = n }) (sym c.last_segment.ensures)

use Rattle.std.proofs.Common.{◌∙◌, ℕ, List, ap, sym}
use Rattle.workspace.specs.Labels.{LabelParts, is_label}
use Rattle.rule_calls.proofs.Sharing.{label_is}
use Rattle.rule_calls.proofs.here.Here.declared_label.Goals as goal

pub returns : goal.returns
returns c =
    let p = c.args.self.now in let n = c.in-Some.name.now in let l = c.in-Some-named.label.now in
    label_is c.args.text.now p n l (c.in-Some.ensures p)
    (c.in-Some-named.ensures ∙ ap (λ (q : List ℕ). let k : LabelParts = record { «package» = q; name = n } in k) c.self.view_is)
    (ap is_label (sym c.get.ensures) ∙ c.legal.ensures)

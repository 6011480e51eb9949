use Rattle.std.proofs.Common.{◌≡◌, ◌++◌, ◌∙◌, OnOk, ap, append_assoc, codes, flat_map, string_bytes, subst}
use Rattle.reporting.specs.Lines.{spaced_label}
use Rattle.reporting.proofs.outcome_lines.put_failed.Goals as goal

pub returns : goal.returns
returns c =
    let labels = flat_map spaced_label c.args.labels.now in
    subst (λ bs. OnOk c.put_labels.result (string_bytes c.put_labels.new.out ≡ bs))
    (ap (λ l. l ++ labels) c.in_ok-push_str.ensures.bytes
    ∙ append_assoc (string_bytes c.args.out.now) (codes "dependency failed") labels) c.put_labels.ensures

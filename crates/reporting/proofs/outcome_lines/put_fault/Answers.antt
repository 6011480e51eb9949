use Rattle.std.proofs.Common.{◌≡◌, ◌++◌, ◌∙◌, OnOk, ap, codes, string_bytes, subst, sym}
use Rattle.reporting.specs.Lines.{refused_text, target_fault_text}
use Rattle.reporting.proofs.outcome_lines.put_fault.Goals as goal

pub returns-in-ProvidersMissing : goal.returns-in-ProvidersMissing
returns-in-ProvidersMissing c =
    let old = string_bytes c.args.out.now in
    subst (λ bs. OnOk c.put_refused.result (string_bytes c.put_refused.new.out ≡ bs))
    (ap (λ l. old ++ (codes "providers missing " ++ refused_text c.in-ProvidersMissing.name l)) c.get.ensures
    ∙ ap (λ f. old ++ target_fault_text f) (sym c.in-ProvidersMissing.is)) c.put_refused.ensures

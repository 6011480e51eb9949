use Rattle.std.proofs.Common.{◌≡◌, ◌∙◌, ap, sym, subst, IfOk}
use Rattle.depsets.specs.Listed.{walked}
use Rattle.claims.specs.Leaders.{all_lead}
use Rattle.claims.proofs.AloneLemmas.{all_alone}
use Rattle.claims.proofs.told.tellings_by.Goals as goal

pub returns-then-all_lead : goal.returns-then-all_lead
returns-then-all_lead c =
    let os = c.args.owned.now in
    subst (λ ts. IfOk c.all_alone.result (λ v. v.items ≡ ts))
    (all_alone walked os (ap (all_lead 0) (sym c.requires.led) ∙ sym c.all_lead.ensures ∙ c.if-all_lead.true)) c.all_alone.ensures

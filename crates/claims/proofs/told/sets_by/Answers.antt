use Rattle.std.proofs.Common.{◌∙◌, ap, sym, subst}
use Rattle.depsets.specs.Listed.{walked}
use Rattle.claims.specs.Leaders.{all_lead}
use Rattle.claims.specs.Sharing.{AreShared}
use Rattle.claims.proofs.AloneLemmas.{none_shared}
use Rattle.claims.proofs.told.sets_by.Goals as goal

pub returns-then-all_lead : goal.returns-then-all_lead
returns-then-all_lead c =
    let os = c.args.owned.now in
    subst (AreShared walked os) (sym c.new.ensures.items)
    (none_shared walked os (ap (all_lead 0) (sym c.requires.led) ∙ sym c.all_lead.ensures ∙ c.if-all_lead.true))

use Rattle.std.proofs.Common.{◌∙◌, sym, subst}
use Rattle.depsets.specs.Listed.{walked, flat}
use Rattle.actions.specs.Ascending.{Each}
use Rattle.claims.specs.Clashes.{AreConflicts}
use Rattle.claims.specs.Labels.{AreLabels}
use Rattle.claims.proofs.Agreed.{agree_plain, conflicts_agree, tellings_same}
use Rattle.claims.proofs.ConflictLemmas.{conflicts_law, conflicts_labels}
use Rattle.claims.proofs.told.tell.Goals as goal

pub returns-clause-law : goal.returns-clause-law
returns-clause-law c = subst (AreConflicts walked c.args.owned.now) (sym c.in_ok-conflicts.ensures) (conflicts_law walked c.args.owned.now)

pub returns-clause-labels : goal.returns-clause-labels
returns-clause-labels c =
    subst (λ cs. Each (λ f. AreLabels c.args.owned.now f.path f.labels) cs) (sym c.in_ok-conflicts.ensures) (conflicts_labels walked c.args.owned.now)

pub returns-clause-plain : goal.returns-clause-plain
returns-clause-plain c coherent =
    let os = c.args.owned.now in
    conflicts_agree walked flat os (agree_plain os coherent) c.in_ok-conflicts.conflicts.items (returns-clause-law c)

pub returns-clause-plain_tellings : goal.returns-clause-plain_tellings
returns-clause-plain_tellings c coherent =
    let os = c.args.owned.now in
    let agree = agree_plain os coherent in
    c.in_ok-tellings.ensures ∙ tellings_same walked flat os agree os agree

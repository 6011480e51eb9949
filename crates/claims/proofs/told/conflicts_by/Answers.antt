use Rattle.std.proofs.Common.{◌≡◌, ◌∙◌, ap, flat_map, subst, IfOk}
use Rattle.depsets.specs.Listed.{walked}
use Rattle.claims.specs.Commons.{commons_of}
use Rattle.claims.specs.Conflicts.{conflict_by}
use Rattle.claims.proofs.ConflictLemmas.{conflicts_found}
use Rattle.claims.proofs.told.conflicts_by.Goals as goal

pub returns : goal.returns
returns c =
    subst (λ xs. IfOk c.conflicts_among.result (λ v. v.items ≡ xs))
    (ap (λ cs. flat_map (conflict_by c.args.led.now) cs) c.requires.commons
    ∙ ap (λ ls. flat_map (conflict_by ls) (commons_of c.args.owned.now)) c.requires.led ∙ conflicts_found walked c.args.owned.now)
    c.conflicts_among.ensures

use Rattle.std.proofs.Common.{◌≡◌, ◌∙◌, [], ap, map, subst, IfOk}
use Rattle.depsets.specs.Listed.{walked}
use Rattle.claims.specs.Leaders.{leaders_from}
use Rattle.claims.specs.Marks.{is_bare, marked_all}
use Rattle.claims.proofs.MarkLemmas.{leaders_by_marks}
use Rattle.claims.proofs.told.leaders_among.Goals as goal

pub returns : goal.returns
returns c =
    subst (λ ls. IfOk c.leaders.result (λ v. v.items ≡ ls))
    (ap (λ bs. leaders_from walked bs [] 0 c.args.owned.now) (c.deref.ensures.value ∙ c.in_ok-marks.ensures)
    ∙ ap (λ cs. leaders_from walked (marked_all (map is_bare c.args.owned.now) cs) [] 0 c.args.owned.now) c.requires.commons
    ∙ leaders_by_marks walked c.args.owned.now) c.leaders.ensures

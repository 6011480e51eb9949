use Rattle.std.proofs.Common.{sym, ◌∙◌, subst}
use Rattle.components.specs.Search.{IsSearch}
use Rattle.components.proofs.Resting.{rests_met}
use Rattle.components.proofs.search.Search.visit.Goals as goal

pub run-requires-clause-search : goal.run-requires-clause-search
run-requires-clause-search c =
    subst (IsSearch c.args.deps.now) (sym c.in_ok-meet.ensures)
    (rests_met c.args.deps.now c.args.self.now c.args.n c.requires.resting (sym c.place.ensures ∙ c.in-Unmet.is) c.requires.node)

use Rattle.std.proofs.Common.{◌∙◌, sym}
use Rattle.depsets.proofs.Turns.{drop_at}
use Rattle.depsets.proofs.iter.ElementsIterIterator.next.Goals as goal

pub returns-clause-steps : goal.returns-clause-steps
returns-clause-steps c =
    sym c.self.view_is ∙ drop_at c.self.inside.elements.now c.self.inside.next c.at-element.result.now c.at-element.ensures

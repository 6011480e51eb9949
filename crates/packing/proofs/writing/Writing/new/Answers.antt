use Rattle.std.proofs.Common.{◌∙◌, ◌++◌, ◌∷◌, [], ap, sym}
use Rattle.packing.proofs.InputTexts.{begun-nil}
use Rattle.packing.proofs.writing.Writing.new.Goals as goal

pub returns-clause-input : goal.returns-clause-input
returns-clause-input c = c.in_ok-push.ensures.items ∙ ap (λ bs. bs ++ 91 ∷ []) c.new-input.ensures.items ∙ sym begun-nil

use Rattle.answers.proofs.SourceTexts.{source_texts_change_nothing}
use Rattle.answers.proofs.laws.source_texts_change_nothing.Goals as goal

pub returns : goal.returns
returns c = source_texts_change_nothing

use Rattle.packing.proofs.InputTexts.{spells_once, text_spells}
use Rattle.packing.proofs.laws.inputs_spell_their_workspace.Goals as goal

pub returns-clause-spells : goal.returns-clause-spells
returns-clause-spells c = text_spells

pub returns-clause-once : goal.returns-clause-once
returns-clause-once c = spells_once

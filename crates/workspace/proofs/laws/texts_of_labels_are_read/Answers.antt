use Rattle.workspace.proofs.LabelLaws.{label_text-reads}
use Rattle.workspace.proofs.laws.texts_of_labels_are_read.Goals as goal

pub returns : goal.returns
returns c = label_text-reads

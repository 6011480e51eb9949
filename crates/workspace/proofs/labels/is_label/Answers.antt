use Rattle.std.proofs.Common.{◌∙◌, sym}
use Rattle.workspace.proofs.LabelLemmas.{is_label-long}
use Rattle.workspace.proofs.labels.is_label.Goals as goal

pub returns-then-is_path-2 : goal.returns-then-is_path-2
returns-then-is_path-2 c =
    is_label-long c.args.«package».now c.args.name.now (sym c.is_empty.ensures ∙ c.if-is_empty.false)
    (sym c.is_path-else-is_empty.ensures ∙ c.if-is_path-2.true) (sym c.is_path.ensures ∙ c.if-is_path.true)

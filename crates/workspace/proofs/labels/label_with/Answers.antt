use Rattle.workspace.specs.Labels.{LabelParts}
use Rattle.workspace.proofs.KeptLabels.{is_kept, parts_of}
use Rattle.workspace.proofs.labels.label_with.Goals as goal

pub invariant_of-result : goal.invariant_of-result
invariant_of-result c =
    let l : LabelParts = record { «package» = c.args.«package».now; name = c.args.name.now } in
    is_kept c.in_ok-text.text l c.in_ok-text.ensures c.requires

pub returns : goal.returns
returns c =
    let l : LabelParts = record { «package» = c.args.«package».now; name = c.args.name.now } in
    parts_of c.in_ok-text.text l c.in_ok-text.ensures

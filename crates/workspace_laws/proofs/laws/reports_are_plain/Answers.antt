use Rattle.workspace_laws.proofs.Reports.{texts_are_plain, workspaces_are_told_plainly}
use Rattle.workspace_laws.proofs.laws.reports_are_plain.Goals as goal

pub returns : goal.returns
returns c = record { texts = texts_are_plain; workspaces = workspaces_are_told_plainly }

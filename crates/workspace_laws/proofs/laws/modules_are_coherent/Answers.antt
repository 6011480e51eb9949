use Rattle.workspace_laws.proofs.Workspaces.{modules_are_coherent, in_any_is_coherent, no_label_owns, all_are_there, none_is_given}
use Rattle.workspace_laws.proofs.laws.modules_are_coherent.Goals as goal

pub returns : goal.returns
returns c = record { together = modules_are_coherent; coherent = in_any_is_coherent; apart = no_label_owns; all = all_are_there; given = none_is_given }

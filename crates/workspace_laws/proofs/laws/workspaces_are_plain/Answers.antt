use Rattle.workspace_laws.proofs.Files.{known_same, faults_same}
use Rattle.workspace_laws.proofs.Outcomes.{dependencies_same, outcomes_same}
use Rattle.workspace_laws.proofs.Packages.{packages_same}
use Rattle.workspace_laws.proofs.Targets.{calls_same}
use Rattle.workspace_laws.proofs.laws.workspaces_are_plain.Goals as goal

pub returns-clause-modules : goal.returns-clause-modules
returns-clause-modules c = known_same

pub returns-clause-faults : goal.returns-clause-faults
returns-clause-faults c = faults_same

pub returns-clause-packages : goal.returns-clause-packages
returns-clause-packages c = packages_same

pub returns-clause-calls : goal.returns-clause-calls
returns-clause-calls c = calls_same

pub returns-clause-dependencies : goal.returns-clause-dependencies
returns-clause-dependencies c = dependencies_same

pub returns-clause-outcomes : goal.returns-clause-outcomes
returns-clause-outcomes c = outcomes_same

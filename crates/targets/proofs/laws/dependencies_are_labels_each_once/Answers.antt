use Rattle.targets.proofs.Dependencies.{are_labels, are_distinct, keep_order}
use Rattle.targets.proofs.laws.dependencies_are_labels_each_once.Goals as goal

pub returns-clause-labels : goal.returns-clause-labels
returns-clause-labels c = are_labels

pub returns-clause-once : goal.returns-clause-once
returns-clause-once c = are_distinct

pub returns-clause-order : goal.returns-clause-order
returns-clause-order c = keep_order

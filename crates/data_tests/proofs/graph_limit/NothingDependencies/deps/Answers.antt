use Rattle.data_tests.proofs.NoLabels.{none_distinct}
use Rattle.data_tests.proofs.graph_limit.NothingDependencies.deps.Goals as goal

pub returns-clause-once : goal.returns-clause-once
returns-clause-once c = none_distinct

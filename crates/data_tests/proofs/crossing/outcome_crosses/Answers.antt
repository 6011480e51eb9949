use Rattle.data_tests.proofs.MayCross.{crosses}
use Rattle.data_tests.proofs.crossing.outcome_crosses.Goals as goal

pub crosses-requires-send-T : goal.crosses-requires-send-T
crosses-requires-send-T c κs = search crosses depth 40

pub crosses-requires-sync-T : goal.crosses-requires-sync-T
crosses-requires-sync-T c κs = search crosses depth 40

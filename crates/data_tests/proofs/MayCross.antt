-- Frozen values and outcomes may cross threads.
use denote.Param.Send.{sendable}
use Rattle.std.proofs.Crossing as std
use Rattle.values.proofs.Crossing.{frozen_send, frozen_sync}
use Rattle.targets.proofs.Crossing.{outcome_send, outcome_sync}

pub ruleset crosses = (frozen_send, frozen_sync, outcome_send, outcome_sync, std.crosses, sendable)

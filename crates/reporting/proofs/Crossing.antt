-- What the parts of a report are made from may cross threads.
use denote.Param.Send.{sendable}
use Rattle.std.proofs.Crossing as std
use Rattle.leaves.proofs.leaf.Provider.TheSendSync as provider
use Rattle.workspace.proofs.labels.Label.TheSendSync as label
use Rattle.claims.proofs.telling.Telling.TheSendSync as telling
use Rattle.targets.proofs.Crossing.{outcome_send, outcome_sync}

pub ruleset crosses = (outcome_send, outcome_sync, label.the_send, label.the_sync, telling.the_send, telling.the_sync, provider.the_send, provider.the_sync, std.crosses, sendable)

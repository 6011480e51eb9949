-- What workers share and hand on may cross threads.
use denote.Param.Send.{IsSync, sendable}
use Rattle.std.proofs.Crossing as std
use Rattle.leaves.proofs.leaf.Provider.TheSendSync as provider
use Rattle.modules.proofs.sorting.FileFault.TheSendSync as failing
use Rattle.plain.proofs.text.Text.TheSendSync as text
use Rattle.loader.proofs.Crossing.{loaded_sync}
use Rattle.packages.proofs.Crossing.{package_sync}
use Rattle.packages.specs.contracts.all_targets.Targets as Targets
use Rattle.graph.proofs.graph.Graph.TheSendSync as graph
use Rattle.targets.proofs.Crossing.{outcome_send, outcome_sync}

pub targets_sync : IsSync Targets.the_row
targets_sync = search (loaded_sync, package_sync, failing.the_field_sync, text.the_sync, std.crosses, sendable) depth 60 fits 20000

pub ruleset crosses = (outcome_send, outcome_sync, loaded_sync, targets_sync, graph.the_sync, provider.the_send, provider.the_sync, text.the_send, text.the_sync, std.crosses, sendable)

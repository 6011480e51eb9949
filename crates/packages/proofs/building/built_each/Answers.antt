use denote.Param.Send.{sendable}
use Rattle.std.proofs.Crossing as std
use Rattle.plain.proofs.text.Text.TheSendSync as text
use Rattle.loader.proofs.Crossing.{loaded_sync}
use Rattle.packages.proofs.Crossing.{declared_targets_send}
use Rattle.packages.proofs.building.built_each.Goals as goal

pub map_places-requires-sync-F : goal.map_places-requires-sync-F
map_places-requires-sync-F g c κs within = search (loaded_sync, std.crosses, sendable) depth 40

pub map_places-requires-send-X : goal.map_places-requires-send-X
map_places-requires-send-X g c κs within = search (declared_targets_send, text.the_send, std.crosses, sendable) depth 60 fits 20000

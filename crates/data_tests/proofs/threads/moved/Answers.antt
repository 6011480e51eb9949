use denote.Param.Send.{sendable}
use Rattle.std.proofs.Crossing as std
use Rattle.values.proofs.Crossing.{frozen_send, frozen_sync}
use Rattle.data_tests.proofs.threads.moved.Goals as goal

pub join-requires-send-F : goal.join-requires-send-F
join-requires-send-F g c κs within = search (frozen_send, frozen_sync, std.crosses, sendable) depth 60 fits 20000

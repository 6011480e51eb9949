use denote.Param.Send.{sendable}
use Rattle.std.proofs.Crossing as std
use Rattle.pool.proofs.gathered.Gathered.TheSendSync as gathered
use Rattle.targets.proofs.Crossing.{outcome_send, outcome_sync}
use Rattle.answers.proofs.report.told_together.Goals as goal

pub of_three-requires-send-A : goal.of_three-requires-send-A
of_three-requires-send-A g c κs within = search (gathered.the_send, outcome_send, outcome_sync, std.crosses, sendable) depth 60 fits 20000

pub returns : goal.returns
returns g c = λ workspace asked legal are is found.
    c.told-report.ensures c.args.targets.files workspace c.args.targets.limit asked c.faults.ensures legal are is found

use Rattle.std.proofs.Common.{refl}
use Rattle.packing.proofs.WalkLemmas.{grows-left, stays-left}
use Rattle.packing.proofs.walk.Walk.leave.Goals as goal

pub returns-clause-grows : goal.returns-clause-grows
returns-clause-grows c at cause =
    grows-left at c.args.self.now _ (record { path = c.args.path; reason = c.args.reason }) refl refl c.in_ok-push.ensures.items cause

pub returns-clause-only : goal.returns-clause-only
returns-clause-only c at asked =
    stays-left at c.args.self.now _ (record { path = c.args.path; reason = c.args.reason }) refl refl c.in_ok-push.ensures.items asked

use Rattle.target_outcomes.proofs.After.{target_is, target_fails}
use Rattle.target_outcomes.proofs.calling.call.Goals as goal

pub returns-in-Ok : goal.returns-in-Ok
returns-in-Ok g c files e =
    let s = c.args.setting.now in
    let h = rw c.new-work.ensures at (c.in_ok-called.ensures.means files e) in
    let ran = rw c.in-Ok.is at h in
    target_is s.limit files s.paths.now c.args.function.now _ _ _ c.returned.result ran
    (c.returned.ensures s.limit files e)

pub returns-in-Err : goal.returns-in-Err
returns-in-Err g c files e =
    let s = c.args.setting.now in
    let h = rw c.new-work.ensures at (c.in_ok-called.ensures.means files e) in
    let ran = rw c.in-Err.is at h in
    target_fails s.limit files s.paths.now c.args.function.now _ c.in-Err.placed ran

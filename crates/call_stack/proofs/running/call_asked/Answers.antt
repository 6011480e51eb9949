use Rattle.std.proofs.Common.{◌∷◌}
use Rattle.std.proofs.lemmas.Result.{err_from_is_err_and}
use Rattle.std.specs.Prelude.{map}
use Rattle.call_stack.specs.CallView.{frame_seen}
use Rattle.call_stack.proofs.Moving.{moves_same}
use Rattle.call_stack.proofs.running.call_asked.Goals as goal

pub returns : goal.returns
returns g c =
    let rest = g.W.Operate.rest in
    rw c.deref.ensures at (moves_same rest _ _ c.go_on.result c.go_on.new.r c.call_known.new.state
    (c.in_ok-called.ensures (frame_seen rest c.args.r.now.top ∷ map (frame_seen rest) c.args.r.now.below)) (c.go_on.ensures c.call_known.new.state))

pub returns-in_err-called : goal.returns-in_err-called
returns-in_err-called g c =
    let rest = g.W.Operate.rest in
    let same = err_from_is_err_and c.from_residual.result c.from_residual.ensures.1 in
    rw (same.1, same.2) (rw c.deref.ensures at (c.in_err-called.ensures (frame_seen rest c.args.r.now.top ∷ map (frame_seen rest) c.args.r.now.below)))

use Rattle.std.proofs.Common.{arith, ◌≡◌, true, Bool, ◌&&◌, sym, subst}
use Rattle.std.proofs.lemmas.Grind.{common_steps}
use Rattle.std.specs.List.{All}
use Rattle.std.proofs.lemmas.List.Elements.{All-head, All-rest, All-push}
use Rattle.board.specs.Views.{PassView}
use Rattle.pool.specs.Settled.{IsSound}
use Rattle.pool.specs.Ends.{IsFine}
use Rattle.pool.proofs.Gathers.{on_true}
use Rattle.pool.proofs.threads.join_all.Goals as goal

both : (a b : Bool) → (a && b) ≡ true → (a ≡ true) × (b ≡ true)
both a b e = grind (arith, common_steps)

pub loop-handle-preserved : goal.loop-handle-preserved
loop-handle-preserved g c =
    let was = c.loop-handle.invariant in
    let step = c.in-Some.ensures.steps in
    let push = c.push_reserved.ensures in
    let pass = c.join-pass.result.0 in
    let join = c.join-pass.ensures in
    let rest = rw step.0 at was.promises in
    let own = All-head (λ h. (h.promise.board.now ≡ c.args.board.now) × (h.promise.analyse.now ≡ c.args.analyse.now)) c.in-Some.handle _ rest in
    let P : PassView g.row.V.Denot → Type 0 = IsFine (g.A.Analyse.step c.args.analyse.now) (g.A.Analyse.fits c.args.analyse.now) c.args.board.now in
    record {
      can_next = tt;
      is_finite = tt;
      whole = omega (arith, step.1, push.len, was.whole);
      room = omega (arith, push.capacity, was.room);
      promises = All-rest (λ h. (h.promise.board.now ≡ c.args.board.now) × (h.promise.analyse.now ≡ c.args.analyse.now)) c.in-Some.handle _ _ step.0 was.promises;
      fine = λ well.
          let two = both _ _ well in
          subst (All P) (sym push.items)
          (All-push P c.loop-handle.passes.items pass (was.fine two.0)
          (record {
            sound = subst (λ t. IsSound (g.A.Analyse.step t) (g.A.Analyse.fits t) c.args.board.now pass) own.1
                (subst (λ b. IsSound (g.A.Analyse.step c.in-Some.handle.promise.analyse.now) (g.A.Analyse.fits c.in-Some.handle.promise.analyse.now) b pass) own.0 join.0);
            ended = on_true _ _ (c.ended_well-well.ensures pass.journal join.1) two.1;
          }));
    }

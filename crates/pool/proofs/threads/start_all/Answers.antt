use Rattle.std.proofs.Common.{arith, ◌≡◌, length, sym, subst}
use Rattle.std.specs.List.{All}
use Rattle.std.proofs.lemmas.List.Elements.{All-rest, All-pop, All-push}
use Rattle.std.specs.Prelude.{Some}
use Rattle.board.specs.Views.{IsNew}
use Rattle.pool.proofs.threads.start_all.Goals as goal

pub loop-pass-preserved : goal.loop-pass-preserved
loop-pass-preserved g c =
    let was = c.loop-pass.invariant in
    let step = c.in-Some.ensures.steps in
    let pop = c.in-Some-pop.ensures in
    let push = c.push_reserved.ensures in
    let started = c.in-Some-start_one.ensures in
    record {
      can_next = tt;
      is_finite = tt;
      whole = omega (arith, step.1, push.len, was.whole);
      ends = omega (arith, step.1, pop.len, was.ends);
      room = omega (arith, push.capacity, was.room);
      shelves = (All-pop (λ e. g.S.Shelf.nodes e ≡ length c.args.site.now.graph.now.deps) c.loop-pass.ends.items c.pop.new.self.items (Some c.in-Some-pop.end) pop.items was.shelves).0;
      passes = All-rest (IsNew c.args.site.now.board.now) c.in-Some.pass _ _ step.0 was.passes;
      own = was.own;
      promises = subst (All (λ h. (h.promise.board.now ≡ c.args.site.now.board.now) × (h.promise.analyse.now ≡ c.args.site.now.analyse.now))) (sym push.items)
          (All-push (λ h. (h.promise.board.now ≡ c.args.site.now.board.now) × (h.promise.analyse.now ≡ c.args.site.now.analyse.now)) c.loop-pass.handles.items c.in-Some-start_one.handle was.promises started);
    }

use Rattle.std.proofs.Common.{◌≡◌, ◌+◌, ◌<◌, true, vec_len, vec_capacity}
use Rattle.std.specs.List.{All}
use Rattle.std.specs.Vec.Iter.{into_iter_items, into_iter_len}
use Rattle.pool.specs.Ends.{IsFine}
use Rattle.pool.proofs.threads.join_all.Given as goal

abbrev pub invariant-loop-handle : goal.invariant-loop-handle
invariant-loop-handle g l =
    let rest = l.handle-iterator in
    record {
      can_next : (goal.iterator-loop-handle g).can_next rest;
      is_finite : (goal.iterator-loop-handle g).is_finite rest;
      whole : vec_len l.passes + into_iter_len rest ≡ vec_len l.fn.handles;
      room : vec_len l.fn.handles + 1 < vec_capacity l.passes;
      promises : All (λ h. (h.promise.board.now ≡ l.fn.board) × (h.promise.analyse.now ≡ l.fn.analyse)) (into_iter_items rest);
      fine : l.well ≡ true → All (IsFine (g.A.Analyse.step l.fn.analyse) (g.A.Analyse.fits l.fn.analyse) l.fn.board) l.passes.items;
    }

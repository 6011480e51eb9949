use Rattle.std.proofs.Common.{◌≡◌, ◌+◌, ◌≤◌, length, vec_len, vec_capacity}
use Rattle.std.specs.List.{All}
use Rattle.std.specs.Vec.Iter.{into_iter_items, into_iter_len}
use Rattle.board.specs.Views.{IsNew}
use Rattle.pool.proofs.threads.start_all.Given as goal

abbrev pub invariant-loop-pass : goal.invariant-loop-pass
invariant-loop-pass g l =
    let rest = l.pass-iterator in
    record {
      can_next : (goal.iterator-loop-pass g).can_next rest;
      is_finite : (goal.iterator-loop-pass g).is_finite rest;
      whole : vec_len l.handles + into_iter_len rest ≡ vec_len l.fn.passes;
      ends : vec_len l.ends ≡ into_iter_len rest;
      room : vec_len l.fn.passes ≤ vec_capacity l.handles;
      shelves : All (λ e. g.S.Shelf.nodes e ≡ length l.site.graph.now.deps) l.ends.items;
      passes : All (IsNew l.site.board.now) (into_iter_items rest);
      own : l.own ≡ l.fn.own;
      promises : All (λ h. (h.promise.board.now ≡ l.site.board.now) × (h.promise.analyse.now ≡ l.site.analyse.now)) l.handles.items;
    }

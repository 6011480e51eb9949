use Rattle.std.proofs.Common.{◌≡◌, ◌+◌, vec_len}
use Rattle.std.specs.List.{All}
use Rattle.std.specs.Vec.Iter.{into_iter_items, into_iter_len}
use Rattle.fakes.proofs.ends.all_faulty.Given as goal

abbrev pub invariant-loop-end : goal.invariant-loop-end
invariant-loop-end g l =
    let rest = l.end-iterator in
    record {
      can_next : (goal.iterator-loop-end g).can_next rest;
      is_finite : (goal.iterator-loop-end g).is_finite rest;
      whole : vec_len l.all + into_iter_len rest ≡ vec_len l.fn.ends;
      left : All (λ e. g.S.Shelf.nodes e ≡ l.nodes) (into_iter_items rest);
      done : All (λ e. e ≡ l.nodes) l.all.items;
    }

use Rattle.std.proofs.Common.{◌≡◌, length, false}
use Rattle.pool.specs.Settled.{IsSound}
use Rattle.pool.proofs.worker.take_turns.Given as goal

abbrev pub invariant-loop : goal.invariant-loop
invariant-loop g l = record {
  can_next : (goal.iterator-loop g).can_next l.iterator';
  is_finite : (goal.iterator-loop g).is_finite l.iterator';
  shelf : g.S.Shelf.nodes l.shelf ≡ length l.site.graph.now.deps;
  sound : IsSound (g.A.Analyse.step l.site.analyse.now) (g.A.Analyse.fits l.site.analyse.now) l.site.board.now l.pass;
  unset : l.pass.journal.set ≡ false;
}

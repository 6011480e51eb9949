use Rattle.std.proofs.Common.{◌≡◌, ◌≢◌, ℕ}
use Rattle.board.specs.Views.{IsPassOf, Keeps, knows}
use Rattle.pool.proofs.worker.wait_for.Given as goal

abbrev pub invariant-loop : goal.invariant-loop
invariant-loop g l = record {
  can_next : (goal.iterator-loop g).can_next l.iterator';
  is_finite : (goal.iterator-loop g).is_finite l.iterator';
  of : IsPassOf l.board l.pass;
  keeps : Keeps (knows l.fn.pass) (knows l.pass);
  others : (k : ℕ) → k ≢ l.n → knows l.pass k ≡ knows l.fn.pass k;
  stays : l.pass.journal ≡ record l.fn.pass.journal { seen = l.pass.journal.seen; saw = l.pass.journal.saw };
}

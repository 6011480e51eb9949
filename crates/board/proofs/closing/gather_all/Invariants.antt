use Rattle.std.proofs.Common.{◌≡◌, [], map}
use Rattle.board.specs.Views.{journal_of, IsGathered}
use Rattle.board.proofs.closing.gather_all.Given as goal

abbrev pub invariant-loop-pass : goal.invariant-loop-pass
invariant-loop-pass g l = record {
  seat : (l.seat.table_id ≡ l.words.table_id) × (l.seat.me.1 ≡ []) × (l.seat.me.0 ≡ map journal_of l.yielded);
  memory : IsGathered l.initial.memory l.yielded l.memory;
}

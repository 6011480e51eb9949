use Rattle.std.proofs.Common.{◌≡◌, ◌+◌, ℕ, [], length}
use Rattle.std.specs.List.{All}
use Rattle.board.specs.Rule.{blanks}
use Rattle.board.specs.Views.{IsNew}
use Rattle.board.proofs.board.Board.deal_all.Given as goal

abbrev pub invariant-loop : goal.invariant-loop
invariant-loop g l = record {
  left : (k : ℕ) × (k + l.counter ≡ l.passes) × (l.seat.me.0 ≡ blanks l.self.plan k);
  place : (l.seat.table_id ≡ l.self.table) × (l.seat.me.1 ≡ []);
  made : (length l.all.items ≡ l.counter) × All (IsNew l.self) l.all.items;
}

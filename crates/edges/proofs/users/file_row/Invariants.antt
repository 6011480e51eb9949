use Rattle.std.proofs.Common.{◌≡◌, ℕ, ◌∷◌, ◌++◌, [], length, take, if◌then◌else◌}
use Rattle.edges.specs.Rows.{row, has}
use Rattle.edges.proofs.users.file_row.Given as goal

abbrev pub invariant-loop-d : goal.invariant-loop-d
invariant-loop-d l = record {
  len : length l.users.lists ≡ length l.initial.users.lists;
  each : (d : ℕ) → row l.users.lists d ≡ (if has (take l.d-index l.list) d then row l.initial.users.lists d ++ l.user ∷ [] else row l.initial.users.lists d);
  room : l.users.room ≡ l.initial.users.room;
}

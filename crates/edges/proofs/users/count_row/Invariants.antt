use Rattle.std.proofs.Common.{◌≡◌, ℕ, ◌+◌, get_or, take, if◌then◌else◌, sum}
use Rattle.edges.specs.Rows.{has}
use Rattle.edges.proofs.users.count_row.Given as goal

abbrev pub invariant-loop-d : goal.invariant-loop-d
invariant-loop-d l = record {
  each : (d : ℕ) → get_or l.counts d 0 ≡ (if has (take l.d-index l.list) d then get_or l.initial.counts d 0 + 1 else get_or l.initial.counts d 0);
  all : sum l.counts ≡ sum l.initial.counts + l.d-index;
}

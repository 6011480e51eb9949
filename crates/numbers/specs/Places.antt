-- Indexes. (Starlark's specification, "Index expressions".)
use Rattle.std.specs.Prelude.{ℕ, ◌+◌, ◌-◌, ℤ, pos, negsuc, Option, Some, None, nat_lt}
use Rattle.std.specs.Prelude.{if◌then◌else◌}

-- The place that an index means among so many items, from the end where it is negative: -1 is the
-- last. None is the fault `index`.
abbrev pub place_of : ℤ → ℕ → Option ℕ
place_of (pos i) n = if nat_lt i n then Some i else None
place_of (negsuc i) n = if nat_lt i n then Some (n - (i + 1)) else None

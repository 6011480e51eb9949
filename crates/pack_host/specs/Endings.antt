-- The exit status (docs/REPORT.md, "Exit status"; this project's own choice).
use Rattle.std.specs.Prelude.{ℕ, Result, Ok, Err}
use Rattle.packing.specs.declared.whole.PackStop.{PackStop}
use Rattle.packing.specs.declared.whole.PackStop.TheVariants as stop
use Rattle.packing.specs.declared.whole.Packed.{Packed}

-- the exit status of the program: 0 where the input was written, and else that of what stopped it
abbrev pub status_of : Result Packed PackStop → ℕ
status_of (Ok packed) = 0
status_of (Err (stop.LeftOut left)) = 1
status_of (Err (stop.TooLong sizes)) = 2
status_of (Err stop.NoMemory) = 3
status_of (Err (stop.Root unread)) = 4
status_of (Err stop.Write) = 4

-- How the program ends: its exit status, and its line on standard error, which is empty where there
-- is none (docs/REPORT.md, "Exit status"; this project's own choice).
use Rattle.std.specs.Prelude.{ℕ, List, [], Bool, true, false, Result, Ok, Err, codes}
use Rattle.serve.specs.declared.stops.ServeStop.{ServeStop}
use Rattle.serve.specs.declared.stops.ServeStop.TheVariants as stop

-- the exit status and the line of a run: 0 after a report without a failure or a conflict, 1 after
-- any other report, and else those of what stopped it
abbrev pub closing_of : Result Bool ServeStop → ℕ × List ℕ
closing_of (Ok false) = (0, [])
closing_of (Ok true) = (1, [])
closing_of (Err stop.Words) = (2, codes "bzlan: words refused")
closing_of (Err stop.Input) = (2, codes "bzlan: input refused")
closing_of (Err stop.TooMany) = (2, codes "bzlan: too many nodes")
closing_of (Err stop.NoMemory) = (3, codes "bzlan: no memory")
closing_of (Err stop.NoThread) = (3, codes "bzlan: no thread")
closing_of (Err stop.Read) = (4, codes "bzlan: device failed")
closing_of (Err stop.Write) = (4, codes "bzlan: device failed")

-- What a run came to, with its faults placed by path. (docs/PROFILE.md, "Faults and positions";
-- this project's own.)
use Rattle.std.specs.Prelude.{List, Result, Ok, Err}
use Rattle.meaning.specs.Outcome.{Final}
use Rattle.ticks.specs.declared.ticks.Kind.{Kind}
use Rattle.values.specs.declared.value.Value.{Value}
use Rattle.language.specs.declared.whole.Whole.{Whole}
use Rattle.loading.specs.Loads.{Path}
use Rattle.loading.specs.declared.faults.Placed.{Placed}
use Rattle.evaluation.specs.Runs.{by_path}

-- a value with the state after it, or a fault
abbrev pub ran : {W : Type 0} → List Path → Final (Whole W) Value Kind
    → Result (Value × Whole W) (Placed Kind)
ran paths (Ok r) = Ok r
ran paths (Err f) = Err (by_path paths f)

-- of a top level its value isn't used
abbrev pub top_ran : {W : Type 0} → List Path → Final (Whole W) Value Kind
    → Result (Whole W) (Placed Kind)
top_ran paths (Ok r) = Ok r.1
top_ran paths (Err f) = Err (by_path paths f)

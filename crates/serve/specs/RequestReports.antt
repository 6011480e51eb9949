-- The report on what words ask for and an input spells. (docs/REPORT.md; this project's own.)
use Rattle.std.specs.Prelude.{◌≡◌, ◌⊎◌, ℕ, List}
use Rattle.request.specs.Asked.{Asked}
use Rattle.request.specs.Input.{Spells}
use Rattle.workspace.specs.Workspaces.{Pair}
use Rattle.reporting.specs.declared.made.Report.{Report}
use Rattle.answers.specs.Reports.{IsTooMany, Reports}
use Rattle.serve.specs.declared.stops.ServeStop.{ServeStop}
use Rattle.serve.specs.declared.stops.ServeStop.TheVariants as stop

-- the input spells a workspace, and this is the report on it
abbrev pub ReportsInput : Asked → List ℕ → Report → Type 0
ReportsInput a input r =
    (workspace : List Pair) × Spells input workspace × Reports workspace a.labels a.steps r

-- the input spells a workspace in which more labels are reached than a report may have
abbrev pub TooManyInput : Asked → List ℕ → Type 0
TooManyInput a input =
    (workspace : List Pair) × Spells input workspace × IsTooMany workspace a.labels a.steps

-- the refusals that come from an input and its analysis
abbrev pub IsOfReport : ServeStop → Type 0
IsOfReport e = (e ≡ stop.Input) ⊎ ((e ≡ stop.TooMany) ⊎ ((e ≡ stop.NoMemory) ⊎ (e ≡ stop.NoThread)))

-- What the call of an implementation answers, as the definitions of targets have it (this project's
-- own).
use Rattle.std.specs.Prelude.{◌≡◌, List, Result, Ok, Err, MatchResult, unwrap_or}
use Rattle.meaning.specs.Functions.{Files, def_line}
use Rattle.leaves.specs.declared.leaf.MadeId.{MadeId}
use Rattle.ticks.specs.declared.ticks.Kind.{Kind}
use Rattle.language.specs.Language.{function_id}
use Rattle.loading.specs.Loads.{Path, path_at}
use Rattle.loading.specs.declared.faults.Placed.{Placed}
use Rattle.targets.specs.Steps as outcome
use Rattle.target_outcomes.specs.declared.returning.Implemented.{Implemented}

-- a fault of this kind, at the `def` of a function
abbrev pub defined_at : Files → List Path → MadeId → Kind → Placed Kind
defined_at files paths id k =
    record {
      kind = k;
      path = path_at paths id.«module»;
      line = unwrap_or (def_line files (function_id id)) 0;
    }

-- what an implementation gave, as the definitions of targets have it
abbrev pub implemented_seen : Implemented → outcome.Implemented
implemented_seen i = record { result = i.result; files = i.work.files; actions = i.work.actions }

-- and its fault
abbrev pub placed_seen : Placed Kind → outcome.Fault
placed_seen f = record { kind = f.kind; path = f.path; line = f.line }

-- a call answers what the implementation comes to
abbrev pub Implements : Result outcome.Implemented outcome.Fault → Result Implemented (Placed Kind)
    → Type 0
Implements meant result =
    MatchResult result (λ i. meant ≡ Ok (implemented_seen i)) (λ f. meant ≡ Err (placed_seen f))

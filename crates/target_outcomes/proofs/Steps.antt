-- The outcome of a target whose implementation was called.
use Rattle.std.proofs.Common.{◌≡◌, ◌∙◌, List, Result, Ok, Err, IfOk, sym, ap}
use Rattle.depsets.specs.declared.element.FileRef.{FileRef}
use Rattle.workspace.specs.Labels.{LabelParts}
use Rattle.targets.specs.Checks.{Dependency}
use Rattle.targets.specs.Steps.{Implemented, Fault, finished, target_outcome}
use Rattle.targets.specs.declared.outcome.Outcome.{Outcome}
use Rattle.targets.specs.declared.outcome.Outcome.TheVariants.{Failed}
use Rattle.targets.specs.declared.outcome.TargetFault.TheVariants as fault
use Rattle.targets.specs.declared.target.Target.{Target}
use Rattle.loader.specs.Loaded.{LoadedView}
use Rattle.target_outcomes.specs.Implementing.{implement}

module _ (l : LabelParts) (t : Target) (ds : List Dependency) (F G : LoadedView) (same : F ≡ G) where
  abbrev made : LoadedView → Result Implemented Fault
  made V = implement V.files V.limit l t ds

  -- it gave this
  pub gave : {E : Type 0} (i : Implemented) (fs : List FileRef) (result : Result Outcome E) → fs ≡ i.files → made F ≡ Ok i →
      IfOk result (λ o. o ≡ finished l (Ok (record { result = i.result; files = fs; actions = i.actions }))) → IfOk result (λ o. o ≡ finished l (made G))
  gave i fs (Err e) q h k = k
  gave i fs (Ok o) q h k =
      k ∙ ap (λ xs. finished l (Ok (record { result = i.result; files = xs; actions = i.actions }))) q ∙ ap (finished l) (sym h ∙ ap made same)

  -- it has this fault
  pub had : (f : Fault) (o : Outcome) → made F ≡ Err f → o ≡ Failed (fault.Implementation f.kind f.path f.line) → o ≡ finished l (made G)
  had f o h k = k ∙ ap (finished l) (sym h ∙ ap made same)

-- the outcome from dependencies is that from the same ones
pub of_same : {E : Type 0} (result : Result Outcome E) (run : LabelParts → Target → List Dependency → Result Implemented Fault) (l : LabelParts) (t : Target)
    (ds es : List Dependency) → ds ≡ es → IfOk result (λ o. o ≡ target_outcome run l t ds) → IfOk result (λ o. o ≡ target_outcome run l t es)
of_same (Err e) run l t ds es same k = k
of_same (Ok o) run l t ds es same k = k ∙ ap (target_outcome run l t) same

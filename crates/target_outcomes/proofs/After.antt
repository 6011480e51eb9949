-- What implementations come to, from what their calls came to.
use Rattle.std.proofs.Common.{◌≡◌, ◌∙◌, ℕ, List, [], length, Result, Ok, Err, IfOk, sym, ap, subst}
use Rattle.meaning.specs.Outcome.{Final}
use Rattle.meaning.specs.Functions.{Files}
use Rattle.meaning.specs.Calls.{function_meaning}
use Rattle.leaves.specs.declared.leaf.FunctionRef.{FunctionRef}
use Rattle.ticks.specs.declared.ticks.Kind.{Kind}
use Rattle.ticks.specs.declared.ticks.TheConstants.{VISITED_LEVELS}
use Rattle.values.specs.declared.value.Value.{Value}
use Rattle.lexer.specs.declared.fault.FaultKind.{FaultKind}
use Rattle.visits.specs.Freeze.{freeze_at}
use Rattle.language.specs.Language.{language, function_id}
use Rattle.language.specs.declared.whole.Whole.{Whole}
use Rattle.loading.specs.Loads.{Path}
use Rattle.loading.specs.declared.faults.Placed.{Placed}
use Rattle.modules.specs.Modules.{ModulesView, module_in, modules_of, AreFound}
use Rattle.workspace.specs.Labels.{LabelParts}
use Rattle.workspace.specs.Workspaces.{Pair, paths_of}
use Rattle.targets.specs.Checks.{Dependency}
use Rattle.targets.specs.Steps as outcome
use Rattle.targets.specs.declared.target.Target.{Target}
use Rattle.contexts.specs.declared.work.Work.{Work}
use Rattle.evaluation.specs.Evaluated.{Known}
use Rattle.evaluation.specs.declared.handed.Module.{Module}
use Rattle.evaluation.specs.Runs.{context_alone, implemented_with, state_of_target, target_after}
use Rattle.evaluation.specs.Workspaces.{linked_files}
use Rattle.evaluation.specs.Worlds.{world}
use Rattle.implementations.specs.Implementations.{implementation_place, target_world}
use Rattle.running.specs.Ran.{ran}
use Rattle.loader.specs.Files.{known, loads}
use Rattle.target_outcomes.specs.Implementing.{implement}
use Rattle.target_outcomes.specs.Seen.{Implements, placed_seen}
use Rattle.target_outcomes.specs.declared.returning.Implemented.{Implemented}

ok_is : {A E : Type 0} (a b : A) → ◌≡◌ {A = Result A E} (Ok a) (Ok b) → a ≡ b
ok_is a b h = cc

err_is : {A E : Type 0} (a b : E) → ◌≡◌ {A = Result A E} (Err a) (Err b) → a ≡ b
err_is a b h = cc

module _ (limit : ℕ) (files : Files) (paths : List Path) (f : FunctionRef) where
  -- an implementation that returned this value in this state
  pub target_is : {E : Type 0} (meant : Final (Whole Work) Value Kind) (v : Value) (w : Whole Work)
      (result : Result (Result Implemented (Placed Kind)) E) → ran paths meant ≡ Ok (v, w) →
      IfOk result (Implements (implemented_with limit files paths target_world f w.work
      (freeze_at VISITED_LEVELS w.state.heap v w.state.ticks))) →
      IfOk result (Implements (target_after limit files paths target_world f meant))
  target_is meant v w (Err e) h q = q
  target_is (Err e) v w (Ok r) h q = absurd cc
  target_is (Ok p) v w (Ok r) h q =
      let P : Value × Whole Work → Type 0 = λ u. Implements (implemented_with limit files paths target_world f u.1.work
      (freeze_at VISITED_LEVELS u.1.state.heap u.0 u.1.state.ticks)) r in
      subst P (sym (ok_is _ _ h)) q

  -- one whose call has a fault
  pub target_fails : (meant : Final (Whole Work) Value Kind) (p : Placed Kind) → ran paths meant ≡ Err p →
      target_after limit files paths target_world f meant ≡ Err (placed_seen p)
  target_fails (Err e) p h = ap (λ q. Err (placed_seen q)) (err_is _ _ h)
  target_fails (Ok r) p h = absurd cc

-- ---- the call of the implementation of a target

abbrev Modules : Type 0
Modules = ModulesView Module FaultKind Kind

-- what it comes to with these files, this limit, these modules, and a place of this target
abbrev meant : Files → LabelParts → ℕ → List Path → Known → LabelParts → Target → List Dependency → FunctionRef → Result outcome.Implemented outcome.Fault
meant files owner limit paths known l t ds f =
    target_after limit files paths target_world f
    (function_meaning (language (world paths known) (implementation_place l t ds)) files (function_id f.id) context_alone
    (record { state = state_of_target limit owner (length paths); work = record { files = []; actions = [] } }))

module _ (files : List Pair) (limit : ℕ) (l : LabelParts) (t : Target) (ds : List Dependency) where
  -- modules are found as they are known
  known_is : (m : Modules) → m ≡ modules_of (loads files limit) → AreFound (loads files limit) → module_in m ≡ known files limit
  known_is m is found = ap module_in is ∙ (λ i q. found q i)

  abbrev Codes : Files
  Codes = linked_files files

  pub implements : {E : Type 0} (limit' : ℕ) (paths : List Path) (m : Modules) (l' : LabelParts) (t' : Target) (ds' : List Dependency) (f' : FunctionRef)
      (result : Result (Result Implemented (Placed Kind)) E) → AreFound (loads files limit) →
      limit' ≡ limit → paths ≡ paths_of files → m ≡ modules_of (loads files limit) → l' ≡ l → t' ≡ t → ds' ≡ ds → f' ≡ t.rule.implementation →
      IfOk result (Implements (meant Codes l limit' paths (module_in m) l' t' ds' f')) →
      IfOk result (Implements (implement files limit l t ds))
  implements limit' paths m l' t' ds' f' result found e1 e2 e3 e4 e5 e6 e7 h =
      let f = t.rule.implementation in
      let at : Result outcome.Implemented outcome.Fault → Type 0 = λ r. IfOk result (Implements r) in
      let h0 = subst (λ x. at (meant Codes l limit' paths (module_in m) l' t' ds' x)) e7 h in
      let h1 = subst (λ x. at (meant Codes l x paths (module_in m) l' t' ds' f)) e1 h0 in
      let h2 = subst (λ x. at (meant Codes l limit x (module_in m) l' t' ds' f)) e2 h1 in
      let h3 = subst (λ (x : Known). at (meant Codes l limit (paths_of files) x l' t' ds' f)) (known_is m e3 found) h2 in
      let h4 = subst (λ x. at (meant Codes l limit (paths_of files) (known files limit) x t' ds' f)) e4 h3 in
      let h5 = subst (λ x. at (meant Codes l limit (paths_of files) (known files limit) l x ds' f)) e5 h4 in
      subst (λ x. at (meant Codes l limit (paths_of files) (known files limit) l t x f)) e6 h5

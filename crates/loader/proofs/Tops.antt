-- What top levels of files come to, from what their runs came to.
use Rattle.std.proofs.Common.{◌≡◌, ◌∙◌, ℕ, ◌≤◌, List, length, Result, Ok, Err, IfOk, sym, ap, subst, arith}
use Rattle.std.proofs.lemmas.List.{length-map}
use Rattle.std.specs.Prelude.{unwrap_or}
use Rattle.std.proofs.lemmas.Option.{slice_get_past}
use Rattle.meaning.specs.Outcome.{Final}
use Rattle.meaning.specs.Functions.{Files, functions}
use Rattle.meaning.specs.Calls.{top_meaning}
use Rattle.ticks.specs.declared.ticks.Kind.{Kind}
use Rattle.values.specs.declared.value.Value.{Value}
use Rattle.language.specs.Language.{language}
use Rattle.language.specs.Place.{Place}
use Rattle.language.specs.declared.whole.Whole.{Whole}
use Rattle.loading.specs.Loads.{Path, Name}
use Rattle.loading.specs.declared.faults.Placed.{Placed}
use Rattle.loading.specs.declared.faults.Ending.{Ending}
use Rattle.loading.specs.declared.faults.Ending.TheVariants.{Faulted}
use Rattle.workspace.specs.Workspaces.{Pair}
use Rattle.evaluation.specs.declared.handed.Module.{Module}
use Rattle.evaluation.specs.Evaluated.{Known}
use Rattle.evaluation.specs.Worlds.{world}
use Rattle.evaluation.specs.Runs.{OfModule, OfBuild, no_program, program_at, state_of_file, module_after, module_ended, run_module, targets_after, run_build}
use Rattle.evaluation.specs.Workspaces.{linked_file, linked_files}
use Rattle.running.specs.Given.{AreOf}
use Rattle.running.specs.Ran.{top_ran}

-- a number that no file has is that of an empty file
pub none_there : (files : List Pair) (n : ℕ) → length files ≤ n → program_at (linked_files files) n ≡ no_program
none_there files n past =
    let size = length-map files linked_file in
    ap (λ o. unwrap_or o no_program) (slice_get_past (linked_files files) n (omega (arith, past, size)))

-- a top level is that of a file, whatever stands for its number, its names and its count of functions
pub own_file : (files : Files) (run_n n count own_count : ℕ) (names own_names : List Name) → run_n ≡ n → names ≡ own_names
    → count ≡ own_count → AreOf files n own_names own_count → AreOf files run_n names count
own_file files run_n n count own_count names own_names e f h own = record {
  names_are = f ∙ own.names_are ∙ ap (λ m. (program_at files m).globals) (sym e);
  functions_are = h ∙ own.functions_are ∙ ap (λ m. length (functions (program_at files m))) (sym e);
}

ok_is : {A E : Type 0} (a b : A) → ◌≡◌ {A = Result A E} (Ok a) (Ok b) → a ≡ b
ok_is a b h = cc

err_is : {A E : Type 0} (a b : E) → ◌≡◌ {A = Result A E} (Err a) (Err b) → a ≡ b
err_is a b h = cc

-- the limit, the files and their paths; the modules that are known
module _ (limit : ℕ) (files : Files) (paths : List Path) (known : Known) where
  -- the run of a top level, in a place
  abbrev pub run_in : {W : Type 0} → Place W → Path → ℕ → W → Final (Whole W) Value Kind
  run_in place path n work =
      top_meaning (language (world paths known) place) files n
      (record { state = state_of_file limit path n (program_at files n); work = work })

  module _ {W : Type 0} (own : OfModule W) where
    module_from : {E : Type 0} (path : Path) (n : ℕ) (names : List Name) (meant : Final (Whole W) Value Kind)
        (w : Whole W) (result : Result (Result Module (Ending Kind)) E) → names ≡ (program_at files n).globals
        → top_ran paths meant ≡ Ok w → IfOk result (λ r. r ≡ module_ended path n names w.state (own.made w.work))
        → IfOk result (λ r. r ≡ module_after limit files paths own path n meant)
    module_from path n names meant w (Err e) ns h q = q
    module_from path n names (Err f) w (Ok r) ns h q = absurd cc
    module_from path n names (Ok p) w (Ok r) ns h q =
        q ∙ ap (λ x. module_ended path n x w.state (own.made w.work)) ns
        ∙ ap (λ u. module_ended path n (program_at files n).globals u.state (own.made u.work)) (sym (ok_is _ _ h))

    fault_from : (path : Path) (n : ℕ) (meant : Final (Whole W) Value Kind) (f : Placed Kind)
        → top_ran paths meant ≡ Err f → Err (Faulted f) ≡ module_after limit files paths own path n meant
    fault_from path n (Ok p) f h = absurd cc
    fault_from path n (Err e) f h = ap (λ x. Err (Faulted x)) (sym (err_is _ _ h))

    -- the module of this path and number, whose run stood for it by the same path and number
    module _ (path : Path) (n : ℕ) (run_path : Path) (run_n : ℕ) (work : W) (same_path : run_path ≡ path)
        (same_n : run_n ≡ n) (first : work ≡ own.first) where
      pub module_is : {E : Type 0} (names : List Name) (w : Whole W) (result : Result (Result Module (Ending Kind)) E)
          → names ≡ (program_at files run_n).globals
          → top_ran paths (run_in (own.place known) run_path run_n work) ≡ Ok w
          → IfOk result (λ r. r ≡ module_ended run_path run_n names w.state (own.made w.work))
          → IfOk result (λ r. r ≡ run_module limit files paths own known path n)
      module_is names w result ns h q =
          let ran = ap (λ x. top_ran paths (run_in (own.place known) run_path run_n x)) (sym first) ∙ h in
          let there = module_from run_path run_n names (run_in (own.place known) run_path run_n own.first) w result ns ran q in
          subst (λ m. IfOk result (λ r. r ≡ run_module limit files paths own known path m)) same_n
          (subst (λ p. IfOk result (λ r. r ≡ run_module limit files paths own known p run_n)) same_path there)

      pub module_fails : (f : Placed Kind) → top_ran paths (run_in (own.place known) run_path run_n work) ≡ Err f
          → Err (Faulted f) ≡ run_module limit files paths own known path n
      module_fails f h =
          let ran = ap (λ x. top_ran paths (run_in (own.place known) run_path run_n x)) (sym first) ∙ h in
          let there = fault_from run_path run_n (run_in (own.place known) run_path run_n own.first) f ran in
          there ∙ ap (λ p. run_module limit files paths own known p run_n) same_path
          ∙ ap (run_module limit files paths own known path) same_n

  module _ {W : Type 0} (own : OfBuild W) where
    targets_from : (meant : Final (Whole W) Value Kind) (w : Whole W) → top_ran paths meant ≡ Ok w
        → targets_after limit files paths own meant ≡ Ok (own.declared w.work)
    targets_from (Err e) w h = absurd cc
    targets_from (Ok p) w h = ap (λ u. Ok (own.declared u.work)) (ok_is _ _ h)

    no_targets_from : (meant : Final (Whole W) Value Kind) (f : Placed Kind) → top_ran paths meant ≡ Err f
        → targets_after limit files paths own meant ≡ Err f
    no_targets_from (Ok p) f h = absurd cc
    no_targets_from (Err e) f h = ap Err (err_is _ _ h)

    -- the BUILD file of this path and number, whose run stood for it by the same path and number, in the same place
    module _ (path : Path) (n : ℕ) (place : Place W) (run_path : Path) (run_n : ℕ) (work : W)
        (same_place : place ≡ own.place known path) (same_path : run_path ≡ path) (same_n : run_n ≡ n)
        (first : work ≡ own.first path) where
      same_run : run_in place run_path run_n work ≡ run_in (own.place known path) path n (own.first path)
      same_run =
          ap (λ p. run_in p run_path run_n work) same_place
          ∙ ap (λ q. run_in (own.place known path) q run_n work) same_path
          ∙ ap (λ m. run_in (own.place known path) path m work) same_n
          ∙ ap (run_in (own.place known path) path n) first

      pub targets_are : (w : Whole W) → top_ran paths (run_in place run_path run_n work) ≡ Ok w
          → run_build limit files paths own known path n ≡ Ok (own.declared w.work)
      targets_are w h = targets_from _ w (ap (top_ran paths) (sym same_run) ∙ h)

      pub no_targets_are : (f : Placed Kind) → top_ran paths (run_in place run_path run_n work) ≡ Err f
          → run_build limit files paths own known path n ≡ Err f
      no_targets_are f h = no_targets_from _ f (ap (top_ran paths) (sym same_run) ∙ h)

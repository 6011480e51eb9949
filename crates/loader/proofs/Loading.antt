-- The modules of a workspace, by its files in the order of their paths.
use Rattle.std.proofs.Common.{◌≡◌, ◌∙◌, ℕ, List, Result, Ok, Err, IfOk, ap}
use Rattle.std.specs.List.Sorted.{IsPermutation}
use Rattle.std.proofs.lemmas.List.Sorted.{IsPermutation-map}
use Rattle.lexer.specs.declared.fault.FaultKind.{FaultKind}
use Rattle.ticks.specs.declared.ticks.Kind.{Kind}
use Rattle.workspace.specs.FileKinds.{is_module}
use Rattle.workspace.specs.Workspaces.{Pair, paths_of}
use Rattle.load_graph.specs.Paths.{ArePaths, module_paths}
use Rattle.modules.specs.Evaluation.{Evaluation, sources}
use Rattle.modules.specs.Modules.{ModulesView, modules_of}
use Rattle.evaluation.specs.declared.handed.Module.{Module}
use Rattle.evaluation.specs.Evaluated.{global_names}
use Rattle.evaluation.specs.Runs.{run_module}
use Rattle.evaluation.specs.Workspaces.{linked_files, read_file}
use Rattle.loader.specs.Files.{loads}
use Rattle.loader.specs.Loaded.{AreFilesOf}
use Rattle.loader.specs.Places.{of_module}
use Rattle.loader.proofs.Kept.{kept_and_sorted}

module _ (files : List Pair) (limit : ℕ) where
  abbrev pub evaluation : Evaluation ℕ Module FaultKind Kind
  evaluation = record {
    read = read_file files;
    globals = global_names;
    run = run_module limit (linked_files files) (paths_of files) of_module;
  }

  pub modules_are : {E : Type 0} (workspace : List Pair) (result : Result (ModulesView Module FaultKind Kind) E)
      → AreFilesOf workspace files → IfOk result (λ m. IsPermutation (module_paths workspace) m.paths)
      → IfOk result (λ m. ArePaths m.paths) → IfOk result (λ m. m ≡ modules_of (sources evaluation m.paths))
      → IfOk result (λ m. m ≡ modules_of (loads files limit))
  modules_are workspace (Err e) own moved up are = are
  modules_are workspace (Ok m) own moved up are =
      are ∙ ap (λ ps. modules_of (sources evaluation ps))
      (kept_and_sorted is_module (paths_of workspace) (paths_of files) m.paths
      (IsPermutation-map (λ (p : Pair). p.0) workspace files own.all) own.ascending.sorted own.ascending.distinct moved
      up.sorted up.distinct)

-- The workspace of files that were evaluated is sound: no label owns what stands in a module. And its implementations keep coherence.
use Rattle.std.proofs.Common.{ℕ, List, refl}
use Rattle.workspace.specs.Workspaces.{IsWorkspace, Pair, paths_of}
use Rattle.outcomes.specs.Workspaces.{ImplementsWell, IsSound}
use Rattle.evaluation.specs.Workspaces.{linked_files}
use Rattle.loader.specs.Files.{known}
use Rattle.loader.specs.Loaded.{AreFilesOf}
use Rattle.workspace_laws.proofs.Workspaces.{in_any_is_coherent, no_label_owns, all_are_there}
use Rattle.workspace_laws.proofs.Implemented.{calls_keep_coherence}
use Rattle.packages.proofs.Names.{are_listed}
use Rattle.workspace_laws.specs.Workspaces.{evaluated}

module _ (files : List Pair) (limit : ℕ) where
  pub is_sound : (workspace : List Pair) → IsWorkspace workspace → AreFilesOf workspace files → IsSound (evaluated files limit)
  is_sound workspace legal are = record {
    listed = are_listed files limit;
    coherent = in_any_is_coherent files limit;
    apart = λ l is. no_label_owns files limit workspace legal are l;
  }

  pub implements_well : ImplementsWell (evaluated files limit)
  implements_well = calls_keep_coherence (evaluated files limit) limit (linked_files files) (paths_of files) (known files limit) refl (all_are_there files limit)

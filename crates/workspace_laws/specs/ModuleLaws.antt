-- That all modules of a workspace are coherent together, and what follows of the depsets that stand
-- in them. (This project's own.)
use Rattle.std.specs.Prelude.{ℕ, List}
use Rattle.depsets.specs.Flat.{Among}
use Rattle.coherence.specs.Coherent.{Depsets, AreCoherent, AreFresh}
use Rattle.loading.specs.Together.{AreTogether}
use Rattle.workspace.specs.Labels.{LabelParts, label_text}
use Rattle.workspace.specs.Workspaces.{Pair, IsWorkspace, paths_of}
use Rattle.evaluation.specs.Worlds.{world}
use Rattle.one_tree.specs.Found.{Set}
use Rattle.outcomes.specs.Found.{id_of, owner_of}
use Rattle.holding.specs.Places.{LinkedKeeps}
use Rattle.loader.specs.Files.{loads, known}
use Rattle.loader.specs.Loaded.{AreFilesOf}
use Rattle.workspace_laws.specs.Found.{in_modules, AllKnown, seen}

-- the files of a workspace, in ascending order of their paths, and how many ticks each evaluation
-- may use
module _ (files : List Pair) (limit : ℕ) where
  -- the depsets that stand in its modules
  abbrev pub of_all : List Set
  of_all = in_modules (known files limit) (paths_of files)

  -- the collection of these, as coherence takes it
  abbrev pub in_any : Depsets Set
  in_any d = Among d of_all

  -- All modules are coherent together, and each depset that stands in one is owned by a module, by
  -- its path.
  abbrev pub ModulesAreCoherent : Type 0
  ModulesAreCoherent = AreTogether (loads files limit) seen

  -- so any two depsets that stand in modules with one id are the same
  abbrev pub InAnyIsCoherent : Type 0
  InAnyIsCoherent = AreCoherent id_of owner_of in_any

  -- and no label owns one: a label's text begins with slashes, which a path does not
  abbrev pub NoLabelOwns : Type 0
  NoLabelOwns =
      (workspace : List Pair) → IsWorkspace workspace → AreFilesOf workspace files
      → (l : LabelParts) → AreFresh id_of owner_of (label_text l) in_any

  -- these are all that stand in modules
  abbrev pub AllAreThere : Type 0
  AllAreThere = AllKnown (known files limit) of_all

  -- and what modules give to an evaluation has no others: values of names, defaults of functions,
  -- and what loads ask for
  abbrev pub NoneIsGiven : Type 0
  NoneIsGiven = LinkedKeeps of_all (world (paths_of files) (known files limit))

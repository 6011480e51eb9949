-- What `BUILD` files came to, before packages have their names. (This project's own.)
use Rattle.std.specs.Prelude.{◌≡◌, ℕ, ◌+◌, ◌<◌, true, false, List, [], ◌∷◌, length, slice_index_or}
use Rattle.std.specs.Prelude.{Option, Some, None, Result}
use Rattle.lexer.specs.declared.fault.FaultKind.{FaultKind}
use Rattle.ticks.specs.declared.ticks.Kind.{Kind}
use Rattle.workspace.specs.FileKinds.{is_build_file}
use Rattle.workspace.specs.Workspaces.{Pair, paths_of}
use Rattle.loading.specs.Loads.{Path, LoadFault}
use Rattle.targets.specs.declared.target.Target.{Target}
use Rattle.loader.specs.Files.{build_at}

-- what a BUILD file comes to: its targets, or why it fails
abbrev pub Built : Type 0
Built = Result (List Target) (LoadFault FaultKind Kind)

module _ (files : List Pair) (limit : ℕ) where
  -- what the file at a path came to; None of one that is no BUILD file
  abbrev pub IsBuilt : Path → Option Built → Type 0
  IsBuilt path None = is_build_file path ≡ false
  IsBuilt path (Some b) = (is_build_file path ≡ true) × (b ≡ build_at files limit path)

  -- the same, of the file at a place
  abbrev pub IsBuiltAt : ℕ → Option Built → Type 0
  IsBuiltAt i o = IsBuilt (slice_index_or (paths_of files) i []) o

  -- and of all files, in their order
  pub record AreBuilt (all : List (Option Built)) : Type 0 where
    pub len : length all ≡ length (paths_of files)
    pub each : (i : ℕ) (d : Option Built) → i < length all → IsBuiltAt i (slice_index_or all i d)

  -- the same, of the files from one on
  abbrev pub AreBuiltFrom : ℕ → List (Option Built) → Type 0
  AreBuiltFrom n [] = n ≡ length (paths_of files)
  AreBuiltFrom n (o ∷ os) =
      (n < length (paths_of files)) × (IsBuiltAt n o × AreBuiltFrom (n + 1) os)

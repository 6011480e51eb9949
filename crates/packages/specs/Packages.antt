-- What the packages of a workspace have (Bazel documentation, "Packages"; that a package fails
-- whole is this project's own).
use Rattle.std.specs.Prelude.{◌≡◌, ◌&&◌, true, ℕ, List, [], ◌∷◌, map, Option, Some, None, Result}
use Rattle.std.specs.Prelude.{Ok, Err, bytes_eq}
use Rattle.std.specs.List.{filter, list_any}
use Rattle.lexer.specs.declared.fault.FaultKind.{FaultKind}
use Rattle.ticks.specs.declared.ticks.Kind.{Kind}
use Rattle.workspace.specs.FileKinds.{is_build_file, package_of}
use Rattle.workspace.specs.Labels.{LabelParts}
use Rattle.workspace.specs.Workspaces.{Pair, paths_of}
use Rattle.loading.specs.Loads.{Path, LoadFault}
use Rattle.targets.specs.Resolving.{Package, no_build_file, faulty, declaring, dependencies}
use Rattle.targets.specs.declared.target.Target.{Target}
use Rattle.loader.specs.Files.{build_at}

-- what each of these targets depends on
abbrev pub all_dependencies : List Target → List (List LabelParts)
all_dependencies ts = map dependencies ts

-- the first of these, if there is one
abbrev pub first : {A : Type 0} → List A → Option A
first [] = None
first (a ∷ later) = Some a

-- the BUILD file of a package, among files of these paths
abbrev pub build_file_of : List Path → List ℕ → Option Path
build_file_of paths p = first (filter (λ q. is_build_file q && bytes_eq p (package_of q)) paths)

-- what a package has whose BUILD file came to this
abbrev pub package_with : Result (List Target) (LoadFault FaultKind Kind) → Package
package_with (Ok ts) = declaring ts
package_with (Err f) = faulty

-- where `built` gives what the BUILD file at a path declares, or why it fails
module _ (built : Path → Result (List Target) (LoadFault FaultKind Kind)) where
  -- what a package has whose BUILD file is at this path, if it has one
  abbrev pub package_of_file_by : Option Path → Package
  package_of_file_by None = no_build_file
  package_of_file_by (Some path) = package_with (built path)

  -- what the package of a name has, among files of these paths
  abbrev pub package_by : List Path → List ℕ → Package
  package_by paths p = package_of_file_by (build_file_of paths p)

-- the files of a workspace, in ascending order of their paths, and how many ticks each evaluation
-- may use
module _ (files : List Pair) (limit : ℕ) where
  -- what a package has whose BUILD file is at this path, if it has one
  abbrev pub package_of_file : Option Path → Package
  package_of_file = package_of_file_by (build_at files limit)

  -- what the package of a name has
  abbrev pub package_at : List ℕ → Package
  package_at = package_by (build_at files limit) (paths_of files)

  -- the names of all packages, in the order of their BUILD files
  abbrev pub packages : List (List ℕ)
  packages = map package_of (filter is_build_file (paths_of files))

  -- what declares targets is a package of the workspace
  abbrev pub AreListed : Type 0
  AreListed =
      (p : List ℕ) (ts : List Target) → package_at p ≡ declaring ts
      → list_any (bytes_eq p) packages ≡ true

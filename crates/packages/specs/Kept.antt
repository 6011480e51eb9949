-- What is kept of packages, and how it is found file by file (this project's own).
use Rattle.std.specs.Prelude.{◌≡◌, ℕ, true, List, ◌∷◌, ◌++◌, Option, Some, None, Result, Ok, Err}
use Rattle.std.specs.Option.{option_or}
use Rattle.std.specs.Prelude.{option_map, if◌then◌else◌, bytes_eq}
use Rattle.std.specs.List.{flat_map, filter, list_any}
use Rattle.std.specs.Map.{lookup}
use Rattle.lexer.specs.declared.fault.FaultKind.{FaultKind}
use Rattle.ticks.specs.declared.ticks.Kind.{Kind}
use Rattle.workspace.specs.FileKinds.{is_module}
use Rattle.workspace.specs.Workspaces.{Pair, paths_of}
use Rattle.loading.specs.Loads.{Path, LoadFault}
use Rattle.loading.specs.Modules.{Sources, any_module, module_of}
use Rattle.modules.specs.Modules.{ModulesView, fault_in, faults_of, modules_of}
use Rattle.modules.specs.declared.sorting.FileFault.{FileFault}
use Rattle.targets.specs.Resolving.{Package, no_build_file, faulty, declaring}
use Rattle.targets.specs.declared.target.Target.{Target}
use Rattle.evaluation.specs.declared.handed.Module.{Module}
use Rattle.loader.specs.Files.{loads, build_at, fault_at, faults}
use Rattle.packages.specs.declared.kept.Package.{Package as Kept}
use Rattle.packages.specs.declared.kept.Package.TheVariants as kept
use Rattle.packages.specs.Packages.{build_file_of}

-- a fault of a file
abbrev pub Fault : Type 0
Fault = FileFault FaultKind Kind

-- what packages have, by their names
abbrev pub Table : Type 0
Table = List (List ℕ × Kept)

-- ---- what a package has

-- what is kept of a package whose BUILD file came to this
abbrev pub kept_with : Result (List Target) (LoadFault FaultKind Kind) → Kept
kept_with (Ok ts) = kept.Declared ts
kept_with (Err f) = kept.Failed

-- what a package has, by what is kept of it, if anything is
abbrev pub package_seen : Option Kept → Package
package_seen None = no_build_file
package_seen (Some kept.Failed) = faulty
package_seen (Some (kept.Declared ts)) = declaring ts

-- one more package, unless one of its name is there
abbrev pub HasMore : List ℕ → Kept → Table → Table → Type 0
HasMore name x old new =
    (p : List ℕ) → lookup (bytes_eq p) new
    ≡ option_or (lookup (bytes_eq p) old) (if bytes_eq p name then Some x else None)

-- ---- the faults of modules, of which the first of those that are left is that of the next module
-- with one

-- The module at a path was gone through. Its fault, if it has one, stood first in the rest and was
-- put behind the old ones; what stood after it is left.
abbrev pub ModuleTold : ModulesView Module FaultKind Kind → Path → List Fault → List Fault
    → List Fault → List Fault → Type 0
ModuleTold modules path rest left old new =
    (w : Sources ℕ Module FaultKind Kind) (later : List Fault) → modules ≡ modules_of w
    → any_module w path ≡ Some (module_of w path)
    → rest ≡ fault_in path (any_module w path) ++ later
    → (left ≡ later) × (new ≡ old ++ fault_in path (any_module w path))

-- ---- file by file

module _ (files : List Pair) (limit : ℕ) where
  -- what the BUILD file at a path comes to, as it is kept
  abbrev pub kept_at : Path → Kept
  kept_at path = kept_with (build_at files limit path)

  -- Files are left, at these paths: what was found has what the others came to.
  pub record IsSoFar (paths : List Path) (rest : List Fault) (packages : Table)
      (told : List Fault) : Type 0 where
    pub within : (q : Path) → list_any (bytes_eq q) paths ≡ true
        → list_any (bytes_eq q) (paths_of files) ≡ true
    pub modules : rest ≡ faults_of (module_of (loads files limit)) (filter is_module paths)
    pub packages_are : (p : List ℕ)
        → option_or (lookup (bytes_eq p) packages) (option_map kept_at (build_file_of paths p))
        ≡ option_map kept_at (build_file_of (paths_of files) p)
    pub faults_are : told ++ flat_map (fault_at files limit) paths ≡ faults files limit

  -- the next file was gone through
  abbrev pub IsTurn : Path → List Fault → List Fault → Table → List Fault → Table → List Fault
      → Type 0
  IsTurn path rest left packages told packages' told' =
      (later : List Path) → IsSoFar (path ∷ later) rest packages told
      → IsSoFar later left packages' told'

  -- all files were
  pub record AreAll (packages : Table) (told : List Fault) : Type 0 where
    pub packages_are : (p : List ℕ)
        → lookup (bytes_eq p) packages ≡ option_map kept_at (build_file_of (paths_of files) p)
    pub faults_are : told ≡ faults files limit

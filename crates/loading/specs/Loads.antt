-- The `load` statements of a file, and why one of them fails (Bazel documentation, "BUILD files",
-- "Load an extension"; the kinds of faults and their order are this project's own,
-- docs/PROFILE.md, "Loading").
use Rattle.std.specs.Prelude.{ℕ, Bool, false, not, List, [], ◌∷◌, map, Option, Some, None, Result}
use Rattle.std.specs.Option.{option_or}
use Rattle.std.specs.Prelude.{Ok, Err, if◌then◌else◌, nat_eq, slice_index_or}
use Rattle.std.specs.List.{list_any}
use Rattle.std.specs.Str.{bytes_eq}
use Rattle.std.specs.Prelude.{option_and_then}
use Rattle.loading.specs.declared.faults.LoadFaultKind.{LoadFaultKind}
use Rattle.loading.specs.declared.faults.LoadFaultKind.TheVariants.{MissingFile, LoadedModuleFailed}
use Rattle.loading.specs.declared.faults.LoadFaultKind.TheVariants.{PrivateName, MissingName}
use Rattle.loading.specs.declared.faults.Placed.{Placed}

-- a file's path in the workspace, as `a/rules.bzl`
abbrev pub Path : Type 0
Path = List ℕ

-- the path at a number of a list of them; the empty path, which no file has, past its end
abbrev pub path_at : List Path → ℕ → Path
path_at paths n = slice_index_or paths n []

-- a name that a module binds
abbrev pub Name : Type 0
Name = List ℕ

-- One `load` statement: the line that it begins on, the path that its label spells, if it spells
-- one, and the names that it asks of that module, in order.
pub record Load : Type 0 where
  pub line : ℕ
  pub target : Option Path
  pub asked : List Name

-- A file without a syntax fault: its loads in order, and what of it is evaluated.
pub record Read (T : Type 0) : Type 0 where
  pub loads : List Load
  pub tree : T

-- Why a file has no globals or targets, and where. S are the kinds of syntax faults, K those of an
-- evaluation's faults.
abbrev pub LoadFault : Type 0 → Type 0 → Type 0
LoadFault S K = Placed (LoadFaultKind S K)

-- A name that begins with `_` is its module's own.
abbrev pub is_private : Name → Bool
is_private [] = false
is_private (b ∷ bs) = nat_eq b 95

-- where it is known which paths are those of modules
module _ (is_module : Path → Bool) where
  -- the path that a label spells, where it is a module's; any other finds none
  abbrev pub module_path : Option Path → Option Path
  module_path None = None
  module_path (Some q) = if is_module q then Some q else None

  -- a load statement with no path but a module's
  abbrev pub of_module : Load → Load
  of_module l = record { line = l.line; target = module_path l.target; asked = l.asked }

  -- What a file loads are modules: a label of anything else finds no file.
  abbrev pub of_modules : {T E : Type 0} → Result (Read T) E → Result (Read T) E
  of_modules (Ok r) = Ok (record { loads = map of_module r.loads; tree = r.tree })
  of_modules (Err e) = Err e

-- The loads of the file at a path, one after the other. Each module that is loaded was found, with
-- its globals' names or its own fault, or wasn't.
module _ {S K M : Type 0} (globals : M → List Name) (path : Path) where
  -- a fault of this file, on a line of it
  abbrev pub fault_at : ℕ → LoadFaultKind S K → LoadFault S K
  fault_at n k = record { kind = k; path = path; line = n }

  -- the first name of a statement that can't be had: a private one, or one that the module doesn't
  -- bind
  abbrev pub names_fault : ℕ → List Name → M → Option (LoadFault S K)
  names_fault n [] m = None
  names_fault n (a ∷ later) m =
      if is_private a then Some (fault_at n PrivateName)
      else (if not (list_any (bytes_eq a) (globals m)) then Some (fault_at n MissingName)
      else names_fault n later m)

  -- Why a statement fails, by what is found where its label leads: no module, a module that has a
  -- fault, or one of which a name can't be had.
  abbrev pub module_fault : Load → Option (Result M (LoadFault S K)) → Option (LoadFault S K)
  module_fault l None = Some (fault_at l.line MissingFile)
  module_fault l (Some (Err f)) = Some (fault_at l.line LoadedModuleFailed)
  module_fault l (Some (Ok m)) = names_fault l.line l.asked m

  -- The fault of the first statement that has one.
  abbrev pub loads_fault : (Path → Option (Result M (LoadFault S K))) → List Load
      → Option (LoadFault S K)
  loads_fault module_at [] = None
  loads_fault module_at (l ∷ ls) =
      option_or (module_fault l (option_and_then module_at l.target)) (loads_fault module_at ls)

-- The modules of a workspace by path, and tables with an entry for each (this project's own).
use Rattle.std.specs.Prelude.{◌≡◌, ℕ, ◌<◌, Bool, false, List, [], ◌∷◌, length, map, filter}
use Rattle.std.specs.Prelude.{nat_eq, Option, Some, None, if◌then◌else◌}
use Rattle.std.specs.List.{list_any, IsDistinct}
use Rattle.std.specs.List.Sorted.{IsSorted}
use Rattle.std.specs.Ordering.{nat_cmp}
use Rattle.std.specs.Cmp.Lexicographic.{slice_cmp}
use Rattle.std.specs.Str.{bytes_eq}
use Rattle.components.specs.Components.{IsRowInside}
use Rattle.loading.specs.Loads.{Path, Load, path_at}
use Rattle.workspace.specs.FileKinds.{is_module}
use Rattle.workspace.specs.Workspaces.{Pair, paths_of}

-- ascending by bytes, and each once
pub record ArePaths (paths : List Path) : Type 0 where
  pub sorted : IsSorted (slice_cmp nat_cmp) paths
  pub distinct : IsDistinct bytes_eq paths

-- the paths of a workspace's modules, in the order of its files
abbrev pub module_paths : List Pair → List Path
module_paths pairs = filter is_module (paths_of pairs)

-- whether a path is one of these
abbrev pub listed : List Path → Path → Bool
listed paths q = list_any (bytes_eq q) paths

-- the module of a number has this path
abbrev pub IsAt : List Path → Path → ℕ → Type 0
IsAt paths q n = (n < length paths) × (path_at paths n ≡ q)

-- modules by number that are these by path
pub record AreNumbers (paths named : List Path) (row : List ℕ) : Type 0 where
  pub inside : IsRowInside row (length paths)
  pub named_is : map (path_at paths) row ≡ named

-- the entry of a path, in a table that has one for each of these paths
abbrev pub entry : {A : Type 0} → List Path → List A → Path → Option A
entry [] entries q = None
entry (p ∷ ps) [] q = None
entry (p ∷ ps) (a ∷ entries) q = if bytes_eq q p then Some a else entry ps entries q

-- ---- Load statements that lead into a component, where each module has the number of its own.

-- whether a module is in this component; where there is no module, it isn't
abbrev pub is_number : ℕ → Option ℕ → Bool
is_number own None = false
is_number own (Some number) = nat_eq number own

module _ (paths : List Path) (numbers : List ℕ) (own : ℕ) where
  -- whether a label leads to a module of this component
  abbrev pub leads_back : Option Path → Bool
  leads_back None = false
  leads_back (Some q) = is_number own (entry paths numbers q)

  -- the line of the first statement that does
  abbrev pub line_back : List Load → Option ℕ
  line_back [] = None
  line_back (l ∷ ls) = if leads_back l.target then Some l.line else line_back ls

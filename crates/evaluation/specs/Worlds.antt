-- What an evaluation knows of the modules before it. Each file of a workspace has a number, its
-- place among all of them.
use Rattle.std.specs.Prelude.{ℕ, Bool, ◌&&◌, ◌||◌, nat_eq, List, [], codes, Option, Some, None}
use Rattle.std.specs.Prelude.{option_map, option_and_then, slice_get, if◌then◌else◌}
use Rattle.std.specs.List.{list_any, starts_with}
use Rattle.values.specs.declared.value.Value.{Value}
use Rattle.operations.specs.Names.{Linked, listed}
use Rattle.workspace.specs.FileKinds.{package_of}
use Rattle.workspace.specs.Labels.{is_colon, label_of, label_path}
use Rattle.loading.specs.Loads.{Path, Name, path_at}
use Rattle.evaluation.specs.Evaluated.{Module, Known, global_named, name_value}

-- The text of a load names a file by a label: it begins with `//` or `:` and has a `:` (Bazel
-- documentation, "BUILD files", "Load an extension"; docs/PROFILE.md, "Loading").
abbrev pub is_load_text : List ℕ → Bool
is_load_text t =
    (starts_with nat_eq t (codes "//") || starts_with nat_eq t (codes ":")) && list_any is_colon t

-- the path that the text of a load names, in a file of this path, if it names one
abbrev pub load_path : Path → List ℕ → Option Path
load_path path t =
    if is_load_text t then option_map label_path (label_of t (Some (package_of path))) else None

-- the defaults of a function, by its number in its module
abbrev pub defaults_of : ℕ → Option Module → List Value
defaults_of n None = []
defaults_of n (Some m) = listed (slice_get m.defaults n)

module _ (paths : List Path) (known : Known) where
  -- the module of a number, if it is known
  abbrev pub module_numbered : ℕ → Option Module
  module_numbered n = option_and_then known (slice_get paths n)

  -- what a load of this file, with this text, gets for a name
  abbrev pub asked_at : Path → List ℕ → Name → Option Value
  asked_at path t x = option_and_then (global_named x) (option_and_then known (load_path path t))

  -- What the modules that are known give to the operations of an evaluation.
  abbrev pub world : Linked
  world = record {
    names = λ f n. option_and_then (name_value n) (module_numbered f);
    defaults = λ id. defaults_of id.number (module_numbered id.«module»);
    asked = λ f t x. asked_at (path_at paths f) t x;
  }

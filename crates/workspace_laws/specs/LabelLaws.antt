-- Which labels a workspace leads to (Bazel documentation, "Labels" and "Dependencies").
use Rattle.std.specs.Prelude.{◌≡◌, ℕ, true, List, Contains}
use Rattle.workspace.specs.Labels.{LabelParts, is_label}
use Rattle.workspace.specs.Workspaces.{Pair}
use Rattle.outcomes.specs.Workspaces.{dependencies}
use Rattle.workspace_laws.specs.Workspaces.{plain_workspace}

-- all of these labels are legal
abbrev pub AreLegal : List LabelParts → Type 0
AreLegal ls = (l : LabelParts) → Contains ls l → is_label l ≡ true

-- Whatever a workspace's files declare, each label depends on legal ones alone: those of an
-- attribute, defaults included, are read from texts, and a text that is no legal label is a fault.
abbrev pub DependenciesAreLegal : Type 0
DependenciesAreLegal =
    (files : List Pair) (limit : ℕ) (l : LabelParts)
    → AreLegal (dependencies (plain_workspace files limit) l)

-- What a label names in a workspace whose BUILD files were evaluated, and what it depends on (Bazel
-- documentation, "Labels" and "Dependencies"; that a package fails whole is this project's own;
-- docs/PROFILE.md, "What a label names").
use Rattle.std.specs.Prelude.{ℕ, Bool, true, false, List, [], ◌∷◌, Option, Some, None}
use Rattle.std.specs.Prelude.{if◌then◌else◌, bytes_eq}
use Rattle.std.specs.List.{list_any}
use Rattle.depsets.specs.Keys.{firsts}
use Rattle.workspace.specs.Labels.{LabelParts, is_label, label_path, same_label}
use Rattle.targets.specs.Attributes.{labels_of}
use Rattle.targets.specs.declared.target.Target.{Target}

-- what a package has: no BUILD file; one with a fault; or the targets that it declares, in order
pub data Package : Type 0 where
  no_build_file : Package
  faulty : Package
  declaring : List Target → Package

-- what a label names: a target; a source file; a label of a package whose BUILD file failed, so
-- that it isn't known what the label names; or nothing
pub data Named : Type 0 where
  target : Target → Named
  source_file : Named
  failed_package : Named
  nothing : Named

-- the first of these targets that has the label
abbrev pub target_with : LabelParts → List Target → Option Target
target_with l [] = None
target_with l (t ∷ ts) = if same_label l t.label then Some t else target_with l ts

-- A target's dependencies: the labels that are values of its label attributes, defaults included,
-- in the order of the rule's `attrs` and of each value. A label that comes again is one dependency,
-- at its first place.
abbrev pub dependencies : Target → List LabelParts
dependencies t = firsts same_label (labels_of t)

-- what a target depends on; all else that a label names has no dependencies
abbrev pub named_dependencies : Named → List LabelParts
named_dependencies (target t) = dependencies t
named_dependencies source_file = []
named_dependencies failed_package = []
named_dependencies nothing = []

-- A workspace: the paths of its files, and what each package has.
module _ (paths : List (List ℕ)) (package_at : List ℕ → Package) where
  -- whether the workspace has a file of the label's path
  abbrev pub is_file : LabelParts → Bool
  is_file l = list_any (bytes_eq (label_path l)) paths

  -- a target hides a source file of its path
  abbrev pub target_or_file : LabelParts → Option Target → Named
  target_or_file l (Some t) = target t
  target_or_file l None = if is_file l then source_file else nothing

  -- what a label names, by what its package has
  abbrev pub named_in : LabelParts → Package → Named
  named_in l no_build_file = nothing
  named_in l faulty = failed_package
  named_in l (declaring ts) = target_or_file l (target_with l ts)

  -- The first that applies: the package has no BUILD file, so the label names nothing; that file
  -- failed; the package declares the name; the workspace has a file of the label's path; else the
  -- label names nothing. What is no legal label names nothing.
  abbrev pub named : LabelParts → Named
  named l = elim (is_label l) [ true ↦ named_in l (package_at l.«package») | false ↦ nothing ]

  -- what a label depends on: nothing, unless it is a declared target
  abbrev pub needs : LabelParts → List LabelParts
  needs l = named_dependencies (named l)

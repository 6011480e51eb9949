-- What becomes of the labels of a workspace, each target being analysed after its dependencies
-- (Bazel documentation, "Dependencies"; docs/PROFILE.md, "Targets").
use Rattle.std.specs.Prelude.{◌≡◌, ◌⊎◌, ℕ, true, List, [], map, length, Result, Ok, Err, Contains}
use Rattle.std.specs.List.{flat_map, list_any}
use Rattle.std.specs.Str.{bytes_eq}
use Rattle.depsets.specs.Flat.{Among}
use Rattle.depsets.specs.declared.depset.Id.{Id}
use Rattle.edges.specs.Outcomes.{outcome}
use Rattle.coherence.specs.Coherent.{Depsets, AreCoherent, AreFresh}
use Rattle.coherence.specs.Together.{Graph}
use Rattle.one_tree.specs.Found.{Set}
use Rattle.workspace.specs.Labels.{LabelParts, is_label, label_text}
use Rattle.targets.specs.Checks.{Dependency}
use Rattle.targets.specs.Resolving.{Package, no_build_file, faulty, declaring, needs, named}
use Rattle.targets.specs.Steps.{Implemented, Fault, step}
use Rattle.targets.specs.declared.outcome.Outcome.{Outcome}
use Rattle.targets.specs.declared.outcome.Outcome.TheVariants.{Failed}
use Rattle.targets.specs.declared.outcome.TargetFault.TheVariants as fault
use Rattle.targets.specs.declared.target.Target.{Target}
use Rattle.outcomes.specs.Found.{id_of, owner_of, has_depset, IsMadeBy}

-- A workspace whose BUILD files were evaluated: the paths of its files; its packages, and what each
-- has; what a call of the implementation of a target comes to, with dependencies that have these
-- outcomes; and the depsets that stand in the values of its modules, each with all below it, which
-- every implementation may reach.
pub record Workspace : Type 0 where
  pub paths : List (List ℕ)
  pub packages : List (List ℕ)
  pub package_at : List ℕ → Package
  pub implement : LabelParts → Target → List Dependency → Result Implemented Fault
  pub known : List Set

-- the labels of the targets that a package declares: none where its BUILD file failed, or where it
-- has none
abbrev pub declared_in : Package → List LabelParts
declared_in no_build_file = []
declared_in faulty = []
declared_in (declaring ts) = map (λ t. t.label) ts

module _ (w : Workspace) where
  -- what a label depends on
  abbrev pub dependencies : LabelParts → List LabelParts
  dependencies = needs w.paths w.package_at

  -- the labels of all declared targets
  abbrev pub declared : List LabelParts
  declared = flat_map (λ p. declared_in (w.package_at p)) w.packages

  -- the outcome of a label from those of its dependencies
  abbrev pub step_of : LabelParts → List Outcome → Outcome
  step_of l os = step w.implement l (named w.paths w.package_at l) os

  -- the outcome of a label from which a walk leads into a cycle
  abbrev pub cycle_of : LabelParts → Outcome
  cycle_of l = Failed fault.Cycle

  -- what becomes of a label
  abbrev pub outcome_of : LabelParts → Outcome
  outcome_of = outcome dependencies cycle_of step_of (length declared)

  -- the depsets of modules
  abbrev pub of_modules : Depsets Set
  of_modules d = Among d w.known

  -- the labels, and what depsets go from outcome to outcome
  abbrev pub graph : Graph LabelParts Outcome Set Id (List ℕ)
  graph = record {
    deps = dependencies;
    out = outcome_of;
    has = has_depset;
    id = id_of;
    owner = owner_of;
    name = label_text;
    named = λ l. is_label l ≡ true;
    base = of_modules;
  }

  -- what an implementation is handed: the values of modules, and the outcomes of its target's
  -- dependencies
  abbrev pub handed : List Dependency → Depsets Set
  handed ds d = of_modules d ⊎ ((o : Dependency) × Contains ds o × has_depset o.1 d)

  -- What the call of an implementation gives is made from what was given, and what is new is its
  -- owner's; a fault has no depsets.
  abbrev pub IfGiven : List ℕ → Depsets Set → Result Implemented Fault → Type 0
  IfGiven o given (Ok i) = IsMadeBy o given i
  IfGiven o given (Err f) = Unit {0}

  -- The call of an implementation keeps coherence, wherever what it is handed is coherent and fresh
  -- for its label. Besides modules and outcomes it is handed the values of the target's attributes,
  -- in which no depset stands.
  abbrev pub ImplementsWell : Type 0
  ImplementsWell =
      (l : LabelParts) (t : Target) (ds : List Dependency) → AreCoherent id_of owner_of (handed ds)
      → AreFresh id_of owner_of (label_text l) (handed ds)
      → IfGiven (label_text l) (handed ds) (w.implement l t ds)

  -- the packages are all that declare targets
  abbrev pub AllAreListed : Type 0
  AllAreListed =
      (p : List ℕ) (ts : List Target) → w.package_at p ≡ declaring ts
      → list_any (bytes_eq p) w.packages ≡ true

  -- so they are; the modules' depsets are coherent, and no label owns one: a module owns by its
  -- path
  pub record IsSound : Type 0 where
    pub listed : AllAreListed
    pub coherent : AreCoherent id_of owner_of of_modules
    pub apart : (l : LabelParts) → is_label l ≡ true
        → AreFresh id_of owner_of (label_text l) of_modules

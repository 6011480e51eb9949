-- What the evaluation of one file, and the call of one implementation, come to: the meaning of the
-- code over the operations of the language, and what is frozen, named and handed on at the end
-- (Starlark specification, "Module execution"; Bazel documentation, "Rules", "Implementation
-- function").
use Rattle.std.specs.Prelude.{ℕ, List, [], ◌∷◌, map, length, replicate, Option, None, Result, Ok}
use Rattle.std.specs.Prelude.{Err, slice_get, unwrap_or, if◌then◌else◌}
use Rattle.actions.specs.declared.action.Action.{Action}
use Rattle.depsets.specs.declared.element.FileRef.{FileRef}
use Rattle.program_tree.specs.Resolved.{Program, no_steps}
use Rattle.meaning.specs.Operations.{Arguments, Operations}
use Rattle.meaning.specs.Outcome.{Fault, Final}
use Rattle.meaning.specs.Functions.{Files, functions, def_line}
use Rattle.meaning.specs.Calls.{function_meaning, top_meaning}
use Rattle.values.specs.Shape.{value_of}
use Rattle.values.specs.View.{FrozenTree}
use Rattle.ticks.specs.Ticking.{Count, Ticking, then_on}
use Rattle.values.specs.Visits.{all_of}
use Rattle.leaves.specs.declared.leaf.FunctionRef.{FunctionRef}
use Rattle.leaves.specs.declared.leaf.Leaf.TheVariants as plain
use Rattle.leaves.specs.declared.leaf.Object.TheVariants as object
use Rattle.values.specs.declared.cells.Cell.{Cell}
use Rattle.values.specs.declared.value.Value.{Value}
use Rattle.values.specs.declared.value.Value.TheVariants as value
use Rattle.ticks.specs.declared.ticks.Kind.{Kind}
use Rattle.ticks.specs.declared.ticks.TheConstants.{VISITED_LEVELS}
use Rattle.visits.specs.Freeze.{freeze_at, frozen_slot}
use Rattle.operations.specs.declared.state.State.{State}
use Rattle.language.specs.Place.{Place}
use Rattle.language.specs.declared.whole.Whole.{Whole}
use Rattle.language.specs.Language.{language, function_id}
use Rattle.loading.specs.Loads.{Path, Name, path_at}
use Rattle.loading.specs.declared.faults.Placed.{Placed}
use Rattle.loading.specs.declared.faults.Ending.{Ending}
use Rattle.loading.specs.declared.faults.Ending.TheVariants.{Faulted, Unnamed}
use Rattle.workspace.specs.Labels.{LabelParts, label_text}
use Rattle.targets.specs.Checks.{Dependency}
use Rattle.targets.specs.Steps as outcome
use Rattle.targets.specs.declared.target.Target.{Target}
use Rattle.evaluation.specs.Evaluated.{Module, Known}
use Rattle.evaluation.specs.Naming.{Naming, unnamed, names_given, all_named, named, slot_named}
use Rattle.targets.specs.declared.declarations.Declarations.{Declarations}
use Rattle.evaluation.specs.Worlds.{world}

-- ---- What each place brings: its calls, fields and methods, with the modules that are known; its
-- work at the beginning; and how what was done is read off its work.

-- of a module: what it made
pub record OfModule (W : Type 0) : Type 0 where
  pub place : Known → Place W
  pub first : W
  pub made : W → Declarations

-- of the BUILD file at a path: the targets that it declared, in order
pub record OfBuild (W : Type 0) : Type 0 where
  pub place : Known → Path → Place W
  pub first : Path → W
  pub declared : W → List Target

-- of an implementation, for the target of a label, with the outcomes of its dependencies: the Files
-- that it declared and the actions that it registered, both in order
pub record OfTarget (W : Type 0) : Type 0 where
  pub place : Known → LabelParts → Target → List Dependency → Place W
  pub first : W
  pub files : W → List FileRef
  pub actions : W → List Action

-- the arguments of the call of an implementation: `ctx`, by position
abbrev pub context_alone : Arguments Value
context_alone = record { items = value.Leaf (plain.Object object.Context) ∷ []; named = [] }

-- a fault stands in a file, by its path
abbrev pub by_path : List Path → Fault Kind → Placed Kind
by_path paths f = record { kind = f.kind; path = path_at paths f.file; line = f.line }

-- ---- The state before anything was done: no name is bound, and no function has defaults.

-- the program of a file without names and statements
abbrev pub no_program : Program
no_program = record { globals = []; loaded = 0; slots = 0; steps = no_steps }

-- the program of the file of this number; it is empty where there is no such file
abbrev pub program_at : Files → ℕ → Program
program_at files n = unwrap_or (slice_get files n) no_program

-- by the limit of its ticks, the owner of what is made, the number of the file, and how many names
-- and functions that has
abbrev pub first_state : ℕ → List ℕ → ℕ → ℕ → ℕ → State
first_state limit owner n names count =
    record {
      heap = [];
      ticks = record { limit = limit; used = 0 };
      owner = owner;
      depsets = 0;
      file = n;
      globals = replicate names None;
      loaded = replicate names None;
      defaults = replicate count [];
    }

-- of a file, by its path, its number and its program
abbrev pub state_of_file : ℕ → Path → ℕ → Program → State
state_of_file limit path n p =
    first_state limit path n (length p.globals) (length (functions p))

-- A target has no names and no functions of its own. Its number is one that no file has, so that
-- all names and all defaults are those of modules.
abbrev pub state_of_target : ℕ → LabelParts → ℕ → State
state_of_target limit l files = first_state limit (label_text l) files 0 0

-- ---- What is frozen when a module's top level has ended.

-- the globals, in the order in which they were bound
abbrev pub frozen_globals : List Cell → List (Option Value) → Count
    → Ticking (List (Option FrozenTree))
frozen_globals h globals c = all_of (frozen_slot (freeze_at VISITED_LEVELS h)) globals c

-- the defaults, by function and by parameter, both in the order of the text
abbrev pub frozen_defaults : List Cell → List (List Value) → Count
    → Ticking (List (List FrozenTree))
frozen_defaults h defaults c = all_of (all_of (freeze_at VISITED_LEVELS h)) defaults c

-- first all globals, then all defaults, with the ticks of the evaluation
abbrev pub all_frozen : List Cell → List (Option Value) → List (List Value) → Count →
    Ticking (List (Option FrozenTree) × List (List FrozenTree))
all_frozen h globals defaults c =
    then_on (frozen_globals h globals c) (λ gs d.
    then_on (frozen_defaults h defaults d) (λ ds e. Ok ((gs, ds), e)))

-- ---- What a module comes to.

-- the names that a module's globals give to what the module made
abbrev pub naming_of : Path → ℕ → List Name → List (Option FrozenTree) → Declarations → Naming
naming_of path n names gs made = names_given (unnamed path n made) names gs

-- what a module is: each provider and each rule in its globals and defaults bears its name
abbrev pub module_named : Naming → List Name → List (Option FrozenTree) → List (Option Value) →
    List (List FrozenTree) → Declarations → Module
module_named ns names gs loaded ds made =
    record {
      names = names;
      globals = map (slot_named ns) gs;
      loaded = loaded;
      defaults = map (map (λ t. value_of (named ns t))) ds;
      made = made;
    }

-- what a module is, if everything that it made has a name
abbrev pub if_named : Naming → List Name → List (Option FrozenTree) → List (Option Value)
    → List (List FrozenTree) → Declarations → Result Module (Ending Kind)
if_named ns names gs loaded ds made =
    if all_named ns then Ok (module_named ns names gs loaded ds made) else Err Unnamed

-- the module, if freezing ended without a fault; such a fault stands at line 0
abbrev pub module_of_frozen : Path → ℕ → List Name → List (Option Value) → Declarations →
    Ticking (List (Option FrozenTree) × List (List FrozenTree)) → Result Module (Ending Kind)
module_of_frozen path n names loaded made (Err k) =
    Err (Faulted (record { kind = k; path = path; line = 0 }))
module_of_frozen path n names loaded made (Ok r) =
    if_named (naming_of path n names r.0.0 made) names r.0.0 loaded r.0.1 made

-- What a module comes to whose top level ended in this state, and made this: its globals and its
-- defaults are frozen, and what it made gets its names. The first that applies: the fault of
-- freezing, at line 0; a provider or a rule that no global names.
abbrev pub module_ended : Path → ℕ → List Name → State → Declarations → Result Module (Ending Kind)
module_ended path n names s made =
    module_of_frozen path n names s.loaded made (all_frozen s.heap s.globals s.defaults s.ticks)

-- a limit of ticks; the files of a workspace, and their paths, by number
module _ (limit : ℕ) (files : Files) (paths : List Path) where
  module _ {W : Type 0} (own : OfModule W) where
    -- what becomes of a module once its top level has ended
    abbrev pub module_after : Path → ℕ → Final (Whole W) Value Kind → Result Module (Ending Kind)
    module_after path n (Err f) = Err (Faulted (by_path paths f))
    module_after path n (Ok r) =
        module_ended path n (program_at files n).globals r.1.state (own.made r.1.work)

    -- The module of this path and number, over these operations: the fault of its top level, or
    -- what the module comes to once that has ended.
    abbrev pub run_module_by : Operations (Whole W) Value Kind → Path → ℕ
        → Result Module (Ending Kind)
    run_module_by ops path n =
        module_after path n
        (top_meaning ops files n
        (record { state = state_of_file limit path n (program_at files n); work = own.first }))

    -- the same, over the operations of the language
    abbrev pub run_module : Known → Path → ℕ → Result Module (Ending Kind)
    run_module known = run_module_by (language (world paths known) (own.place known))

  module _ {W : Type 0} (own : OfBuild W) where
    -- what becomes of a BUILD file once its top level has ended
    abbrev pub targets_after : Final (Whole W) Value Kind → Result (List Target) (Placed Kind)
    targets_after (Err f) = Err (by_path paths f)
    targets_after (Ok r) = Ok (own.declared r.1.work)

    -- The BUILD file of this path and number, over these operations: the targets that its top level
    -- declares, or its fault. Nothing is frozen at its end.
    abbrev pub run_build_by : Operations (Whole W) Value Kind → Path → ℕ
        → Result (List Target) (Placed Kind)
    run_build_by ops path n =
        targets_after
        (top_meaning ops files n
        (record { state = state_of_file limit path n (program_at files n); work = own.first path }))

    -- the same, over the operations of the language
    abbrev pub run_build : Known → Path → ℕ → Result (List Target) (Placed Kind)
    run_build known path = run_build_by (language (world paths known) (own.place known path)) path

  module _ {W : Type 0} (own : OfTarget W) where
    -- a fault at a place, as an outcome has it
    abbrev pub fault_placed : Placed Kind → outcome.Fault
    fault_placed f = record { kind = f.kind; path = f.path; line = f.line }

    -- at the `def` of a function
    abbrev pub at_def : FunctionRef → Kind → outcome.Fault
    at_def f k =
        record {
          kind = k;
          path = path_at paths f.id.«module»;
          line = unwrap_or (def_line files (function_id f.id)) 0;
        }

    -- what an implementation gives, by its frozen result; a fault of freezing stands at the `def`
    abbrev pub implemented_with : FunctionRef → W → Ticking FrozenTree
        → Result outcome.Implemented outcome.Fault
    implemented_with f w (Err k) = Err (at_def f k)
    implemented_with f w (Ok r) =
        Ok (record { result = r.0; files = own.files w; actions = own.actions w })

    -- what an implementation gives once its call has ended: its result is frozen
    abbrev pub target_after : FunctionRef → Final (Whole W) Value Kind
        → Result outcome.Implemented outcome.Fault
    target_after f (Err e) = Err (fault_placed (by_path paths e))
    target_after f (Ok r) =
        implemented_with f r.1.work (freeze_at VISITED_LEVELS r.1.state.heap r.0 r.1.state.ticks)

    -- The call of the implementation of a target's rule, over these operations, with `ctx` alone:
    -- its result, frozen, with the Files and the actions. A fault of the call itself, and of
    -- freezing, stands at the `def`.
    abbrev pub run_implementation_by : Operations (Whole W) Value Kind → LabelParts → Target
        → Result outcome.Implemented outcome.Fault
    run_implementation_by ops l t =
        target_after t.rule.implementation
        (function_meaning ops files (function_id t.rule.implementation.id) context_alone
        (record { state = state_of_target limit l (length paths); work = own.first }))

    -- the same, over the operations of the language
    abbrev pub run_implementation : Known → LabelParts → Target → List Dependency
        → Result outcome.Implemented outcome.Fault
    run_implementation known l t ds =
        run_implementation_by (language (world paths known) (own.place known l t ds)) l t

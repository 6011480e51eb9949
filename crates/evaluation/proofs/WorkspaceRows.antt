-- Worked workspaces, by computation: modules that load others, and a BUILD file.
use Rattle.std.specs.Prelude.{◌≡◌, ℕ, List, [], ◌∷◌, codes, Some, None, Result, Ok, Err, refl, unwrap_or, position, bytes_eq}
use Rattle.lexer.specs.declared.fault.FaultKind.{FaultKind}
use Rattle.program_tree.specs.Names.{Name}
use Rattle.program_tree.specs.Resolved.{Program, program, numeral, define, evaluate, load, Statement, no_terms}
use Rattle.meaning.specs.Outcome.{put, slot_value}
use Rattle.meaning.specs.Entry.{entry}
use Rattle.meaning.specs.Expressions.{eval}
use Rattle.meaning.specs.Statements.{exec}
use Rattle.meaning.specs.Calls.{invoke}
use Rattle.meaning.specs.Functions.{Files}
use Rattle.workspace.specs.Paths.{are_segments}
use Rattle.values.specs.Tree.{branch, none}
use Rattle.values.specs.Tree as tree
use Rattle.values.specs.declared.value.Value.TheVariants as value
use Rattle.ticks.specs.declared.ticks.Kind.{Kind}
use Rattle.ticks.specs.declared.ticks.Kind.TheVariants as kind
use Rattle.visits.specs.Freeze.{freeze_at}
use Rattle.loading.specs.Loads.{Path, LoadFault}
use Rattle.loading.specs.Modules.{Sources, module_of, build_of}
use Rattle.loading.specs.declared.faults.LoadFaultKind.TheVariants.{Evaluation, PrivateName, MissingName}
use Rattle.targets.specs.declared.target.Target.{Target}
use Rattle.evaluation.specs.Evaluated.{Module, global_names}
use Rattle.evaluation.specs.Runs.{no_program, program_at, run_module, run_build}
use Rattle.evaluation.specs.Workspaces.{read_as}
use Rattle.evaluation.proofs.Small.{small_module, small_build, lines, outer, list, sets, calls, method}

abbrev m : Path
m = codes "a/m.bzl"

abbrev r : Path
r = codes "a/r.bzl"

abbrev build : Path
build = codes "a/BUILD"

abbrev paths : List Path
paths = build ∷ m ∷ r ∷ []

-- the workspace of a BUILD file and two modules, with 100 ticks for each
abbrev number : Path → ℕ
number q = unwrap_or (position (bytes_eq q) paths) 3

abbrev workspace : Files → Sources ℕ Module FaultKind Kind
workspace files =
    record {
      modules = m ∷ r ∷ [];
      read = λ q. read_as q (number q) (Ok (program_at files (number q)));
      globals = global_names;
      run = run_module 100 files paths small_module;
    }

abbrev comes_to : Files → Path → Result Module (LoadFault FaultKind Kind)
comes_to files q = module_of (workspace files) q

abbrev declares : Files → Result (List Target) (LoadFault FaultKind Kind)
declares files = build_of (workspace files) (run_build 100 files paths small_build) build

-- load(":m.bzl", "x"), where `asked` is the name that it asks for
abbrev loads : Name → Statement
loads x = load (codes ":m.bzl") (record { asked = x; binds = 0 } ∷ [])

-- a/m.bzl: l = []
--          def m(): l.append(1)
abbrev appends : Program
appends =
    program (codes "l" ∷ codes "m" ∷ []) 0
    (lines 1 (sets 0 (list []) ∷
    define 0 1 [] no_terms 0 (lines 3 (evaluate (method (outer 0) (codes "append") (numeral 1)) ∷ [])) ∷ []))

-- a/r.bzl: load(":m.bzl", "l")
--          l.append(1)
abbrev changes_loaded : Program
changes_loaded =
    program (codes "l" ∷ []) 1
    (lines 1 (loads (codes "l") ∷ evaluate (method (outer 0) (codes "append") (numeral 1)) ∷ []))

loaded_list_is_frozen : comes_to (no_program ∷ appends ∷ changes_loaded ∷ []) r
    ≡ Err (record { kind = Evaluation kind.Frozen; path = r; line = 2 })
unfolding eval exec invoke put slot_value entry freeze_at are_segments
loaded_list_is_frozen = refl

-- a/BUILD: load(":m.bzl", "m")
--          m()
abbrev calls_loaded : Program
calls_loaded = program (codes "m" ∷ []) 1 (lines 1 (loads (codes "m") ∷ evaluate (calls (outer 0)) ∷ []))

-- the fault stands where the function of the other module is
fault_in_another_module : declares (calls_loaded ∷ appends ∷ no_program ∷ [])
    ≡ Err (record { kind = Evaluation kind.Frozen; path = m; line = 3 })
unfolding eval exec invoke put slot_value entry freeze_at are_segments
fault_in_another_module = refl

no_targets : declares (no_program ∷ appends ∷ no_program ∷ []) ≡ Ok []
unfolding eval exec invoke put slot_value entry freeze_at are_segments
no_targets = refl

-- a/r.bzl: load(":m.bzl", "_u"); load(":m.bzl", "v"); load(":m.bzl", l2 = "l"), y = l2
abbrev asks_for : Name → Program
asks_for x = program (codes "l2" ∷ codes "y" ∷ []) 1 (lines 1 (loads x ∷ sets 1 (outer 0) ∷ []))

private_name : comes_to (no_program ∷ appends ∷ asks_for (codes "_u") ∷ []) r
    ≡ Err (record { kind = PrivateName; path = r; line = 1 })
unfolding eval exec invoke put slot_value entry freeze_at are_segments
private_name = refl

missing_name : comes_to (no_program ∷ appends ∷ asks_for (codes "v") ∷ []) r
    ≡ Err (record { kind = MissingName; path = r; line = 1 })
unfolding eval exec invoke put slot_value entry freeze_at are_segments
missing_name = refl

-- a name that is loaded is no global, and has its value under its own number
loaded_name : comes_to (no_program ∷ appends ∷ asks_for (codes "l") ∷ []) r
    ≡ Ok (record {
      names = codes "l2" ∷ codes "y" ∷ [];
      globals = None ∷ Some (branch (tree.list none)) ∷ [];
      loaded = Some (value.Frozen (tree.list none)) ∷ None ∷ [];
      defaults = [] ∷ [];
      made = record { providers = 0; rules = []; attributes = [] };
    })
unfolding eval exec invoke put slot_value entry freeze_at are_segments
loaded_name = refl

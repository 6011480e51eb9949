-- What each module of a workspace comes to, and each BUILD file: its value, or its load fault
-- (docs/PROFILE.md, "Loading"). What a text is read as and what evaluation means come from outside.
use Rattle.std.specs.Prelude.{ℕ, zero, suc, Bool, true, false, ◌||◌, ◌&&◌, List, [], ◌∷◌, length}
use Rattle.std.specs.Prelude.{max, Option, Some, None, Result, Ok, Err, if◌then◌else◌, nat_lt}
use Rattle.std.specs.List.{list_any, cons_option}
use Rattle.std.specs.Str.{bytes_eq}
use Rattle.edges.specs.Outcomes.{outcome}
use Rattle.loading.specs.Loads.{Path, Name, Load, LoadFault, Read, of_modules, loads_fault}
use Rattle.loading.specs.declared.faults.LoadFaultKind.TheVariants.{Syntax, LoadCycle, Evaluation}
use Rattle.loading.specs.declared.faults.LoadFaultKind.TheVariants.{Unexported}
use Rattle.loading.specs.declared.faults.Placed.{Placed}
use Rattle.loading.specs.declared.faults.Ending.{Ending}
use Rattle.loading.specs.declared.faults.Ending.TheVariants.{Faulted, Unnamed}

-- A workspace as loading sees it: the paths of its modules, what each file's text is read as (or
-- its syntax fault, with the line), which names a module's value binds, and what a module's tree is
-- evaluated to with the modules that are handed to it.
pub record Sources (T M S K : Type 0) : Type 0 where
  pub modules : List Path
  pub read : Path → Result (Read T) (S × ℕ)
  pub globals : M → List Name
  pub run : (Path → Option M) → Path → T → Result M (Ending K)

-- one more than the highest
abbrev pub above_all : List ℕ → ℕ
above_all [] = 0
above_all (h ∷ hs) = max (suc h) (above_all hs)

-- the module that a result has, if it has one
abbrev pub value : {M F : Type 0} → Option (Result M F) → Option M
value None = None
value (Some (Ok m)) = Some m
value (Some (Err f)) = None

-- What the evaluation of the module at a path comes to.
abbrev pub ended : {M S K : Type 0} → Path → Result M (Ending K) → Result M (LoadFault S K)
ended p (Ok m) = Ok m
ended p (Err (Faulted f)) = Err (record { kind = Evaluation f.kind; path = f.path; line = f.line })
ended p (Err Unnamed) = Err (record { kind = Unexported; path = p; line = 0 })

-- ---- What the load statements of a file name, in their order.

-- the paths that the labels of these statements spell
abbrev pub targets : List Load → List Path
targets [] = []
targets (l ∷ ls) = cons_option l.target (targets ls)

-- the paths that a file loads; one with a syntax fault loads none
abbrev pub targets_in : {T E : Type 0} → Result (Read T) E → List Path
targets_in (Ok r) = targets r.loads
targets_in (Err e) = []

-- ---- Walks from file to file, where `loads` gives what a file loads.
module _ (loads : Path → List Path) where
  -- whether a walk of at most n loads leads from one file to another
  abbrev pub reaches : ℕ → Path → Path → Bool
  reaches zero a b = bytes_eq a b
  reaches (suc n) a b = bytes_eq a b || list_any (λ c. reaches n c b) (loads a)

  module _ (modules : List Path) where
    -- Whether a walk leads from a file back to itself. It need pass no module twice.
    abbrev pub on_cycle : Path → Bool
    on_cycle p = list_any (λ q. reaches (length modules) q p) (loads p)

    -- the loads of files that are on no cycle
    abbrev pub open_loads : Path → List Path
    open_loads p = if on_cycle p then [] else loads p

    -- How high a file stands above those that it loads: 0 where it loads none or is on a cycle,
    -- else one more than the highest of them.
    abbrev pub height : Path → ℕ
    height = outcome open_loads (λ _. 0) (λ _ hs. above_all hs) (length modules)

module _ {T M S K : Type 0} (w : Sources T M S K) where
  -- why a file of this workspace has no globals or targets
  abbrev pub Fault : Type 0
  Fault = LoadFault S K

  -- whether a module of the workspace has this path
  abbrev pub is_module : Path → Bool
  is_module q = list_any (bytes_eq q) w.modules

  -- a file, and a load of it for each label that names a module
  abbrev pub file : Path → Result (Read T) (S × ℕ)
  file p = of_modules is_module (w.read p)

  -- The modules that a module loads, in the order of its statements. One with a syntax fault loads
  -- nothing.
  abbrev pub loads_of : Path → List Path
  loads_of p = if is_module p then targets_in (file p) else []

  -- whether a file of this workspace is on a load cycle
  abbrev pub is_on_cycle : Path → Bool
  is_on_cycle = on_cycle loads_of w.modules

  -- how high a file of this workspace stands above those that it loads
  abbrev pub height_of : Path → ℕ
  height_of = height loads_of w.modules

  -- whether a walk leads from what a statement loads to a file
  abbrev pub leads_to : Path → Option Path → Bool
  leads_to p None = false
  leads_to p (Some q) = reaches loads_of (length w.modules) q p

  -- the line of the first statement from which a walk leads back to the file
  abbrev pub cycle_line : Path → List Load → ℕ
  cycle_line p [] = 0
  cycle_line p (l ∷ ls) = if leads_to p l.target then l.line else cycle_line p ls

  -- evaluated, unless a load fails
  abbrev pub linked : Path → T → (Path → Option (Result M Fault)) → Option Fault → Result M Fault
  linked p t module_at (Some f) = Err f
  linked p t module_at None = ended p (w.run (λ q. value (module_at q)) p t)

  -- A module, where `module_at` gives the modules that may be loaded. Its fault is the first that
  -- applies: syntax; a load cycle; the first load that fails; a fault of evaluation; what no global
  -- names.
  abbrev pub loaded : Path → Result (Read T) (S × ℕ) → (Path → Option (Result M Fault))
      → Result M Fault
  loaded p (Err e) module_at = Err (record { kind = Syntax e.0; path = p; line = e.1 })
  loaded p (Ok r) module_at = elim (is_on_cycle p) [
    | true ↦ Err (record { kind = LoadCycle; path = p; line = cycle_line p r.loads })
    | false ↦ linked p r.tree module_at (loads_fault w.globals p module_at r.loads)
  ]

  -- whether a module has this path and stands lower than a height
  abbrev pub is_lower : ℕ → Path → Bool
  is_lower h q = is_module q && nat_lt (height_of q) h

  -- The modules that stand lower than a height, with what each comes to. All modules that a file on
  -- no cycle loads stand lower than the file (`LoadsAreLower`, in Laws): it is handed these, and
  -- all others that stand lower, among them those whose functions these may call.
  abbrev pub lower : ℕ → (Path → Result M Fault) → Path → Option (Result M Fault)
  lower h f q = elim (is_lower h q) [ true ↦ Some (f q) | false ↦ None ]

  -- What the module at a path comes to, from what the modules below it come to. A chain of loads is
  -- followed through at most n modules, so that the definition ends; `module_of` asks for so many
  -- that no chain is cut (`ComeFromLower`, in Laws).
  abbrev pub module_within : ℕ → Path → Result M Fault
  module_within zero p = Err (record { kind = LoadCycle; path = p; line = 0 })
  module_within (suc n) p = loaded p (file p) (lower (height_of p) (module_within n))

  -- What the module at a path comes to. It is taken after all modules that it loads: a file on no
  -- cycle stands above them (`LoadsAreLower`, in Laws), and one on a cycle fails whatever they are.
  abbrev pub module_of : Path → Result M Fault
  module_of p = module_within (suc (height_of p)) p

  -- all modules, for what isn't loaded by any
  abbrev pub any_module : Path → Option (Result M Fault)
  any_module q = elim (is_module q) [ true ↦ Some (module_of q) | false ↦ None ]

  -- ---- BUILD files: no file loads one, so none is on a cycle, and none is named by a global.
  module _ {B : Type 0} (run_build : (Path → Option M) → Path → T → Result B (Placed K)) where
    -- what the evaluation of a BUILD file comes to, with its fault as one of a file
    abbrev pub build_ended : Result B (Placed K) → Result B Fault
    build_ended (Ok b) = Ok b
    build_ended (Err f) = Err (record { kind = Evaluation f.kind; path = f.path; line = f.line })

    -- evaluated with all modules that have no fault, unless a load fails
    abbrev pub build_linked : Path → T → Option Fault → Result B Fault
    build_linked p t (Some f) = Err f
    build_linked p t None = build_ended (run_build (λ q. value (any_module q)) p t)

    -- A BUILD file as it is read. Its fault is the first that applies: syntax; the first load that
    -- fails; a fault of evaluation.
    abbrev pub built : Path → Result (Read T) (S × ℕ) → Result B Fault
    built p (Err e) = Err (record { kind = Syntax e.0; path = p; line = e.1 })
    built p (Ok r) = build_linked p r.tree (loads_fault w.globals p any_module r.loads)

    -- What the BUILD file at a path comes to.
    abbrev pub build_of : Path → Result B Fault
    build_of p = built p (file p)

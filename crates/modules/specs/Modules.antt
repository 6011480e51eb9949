-- What the modules of a workspace came to (this project's own).
use Rattle.std.specs.Prelude.{◌≡◌, List, [], ◌∷◌, ◌++◌, map, Option, Some, None, Result, Ok, Err}
use Rattle.std.specs.Option.{option_flatten}
use Rattle.loading.specs.Loads.{Path, LoadFault}
use Rattle.loading.specs.Modules.{Sources, value, module_of, any_module}
use Rattle.load_graph.specs.Paths.{entry}
use Rattle.modules.specs.declared.sorting.FileFault.{FileFault}

-- Modules by path: the value of each that has no fault, and the faults of the others, in the order
-- of their paths.
pub record ModulesView (M S K : Type 0) : Type 0 where
  pub paths : List Path
  pub values : List (Option M)
  pub faults : List (FileFault S K)

-- the module at a path
abbrev pub module_in : {M S K : Type 0} → ModulesView M S K → Path → Option M
module_in m q = option_flatten (entry m.paths m.values q)

-- the value of a module, if it came to one
abbrev pub value_in : {M F : Type 0} → Option (Result M F) → Option M
value_in r = value r

-- the fault of a file, as it is reported: none where the file has none
abbrev pub fault_in : {M S K : Type 0} → Path → Option (Result M (LoadFault S K))
    → List (FileFault S K)
fault_in p None = []
fault_in p (Some (Ok m)) = []
fault_in p (Some (Err f)) = record { path = p; fault = f } ∷ []

-- the faults of modules at these paths that came to this, in their order
abbrev pub faults_in : {M S K : Type 0} → List Path → List (Option (Result M (LoadFault S K)))
    → List (FileFault S K)
faults_in [] rs = []
faults_in (p ∷ ps) [] = []
faults_in (p ∷ ps) (r ∷ rs) = fault_in p r ++ faults_in ps rs

-- the faults of the modules at these paths, in their order
abbrev pub faults_of : {M S K : Type 0} → (Path → Result M (LoadFault S K)) → List Path
    → List (FileFault S K)
faults_of f [] = []
faults_of f (p ∷ ps) = fault_in p (Some (f p)) ++ faults_of f ps

module _ {T M S K : Type 0} (w : Sources T M S K) where
  -- What all modules come to, by the definition of each.
  abbrev pub modules_of : ModulesView M S K
  modules_of = record {
    paths = w.modules;
    values = map (λ p. value (Some (module_of w p))) w.modules;
    faults = faults_of (module_of w) w.modules;
  }

  -- what is found at a path is the module there, if one is there and has no fault
  abbrev pub AreFound : Type 0
  AreFound = (q : Path) → module_in modules_of q ≡ value (any_module w q)

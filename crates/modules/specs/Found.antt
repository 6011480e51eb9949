-- What load statements find at a path, where it doesn't matter why a module failed (this project's
-- own).
use Rattle.std.specs.Prelude.{Option, Some, None, Result, Ok, Err}
use Rattle.loading.specs.Loads.{Path, LoadFault}
use Rattle.loading.specs.declared.faults.LoadFaultKind.TheVariants.{LoadedModuleFailed}
use Rattle.load_graph.specs.Paths.{entry}
use Rattle.modules.specs.Modules.{ModulesView}
use Rattle.modules.specs.declared.found.Found.{Found}
use Rattle.modules.specs.declared.found.Found.TheVariants.{Missing, Failed, Module}

-- no module, one that failed, or its value
abbrev pub without_fault : {M F : Type 0} → Option (Result M F) → Option (Option M)
without_fault None = None
without_fault (Some (Ok m)) = Some (Some m)
without_fault (Some (Err f)) = Some None

-- the same, of what the code answers
abbrev pub found_seen : {M : Type 0} → Found M → Option (Option M)
found_seen Missing = None
found_seen Failed = Some None
found_seen (Module m) = Some (Some m.now)

-- with some fault for each that failed
abbrev pub with_fault : {M S K : Type 0} → Path → Option (Option M)
    → Option (Result M (LoadFault S K))
with_fault p None = None
with_fault p (Some None) = Some (Err (record { kind = LoadedModuleFailed; path = p; line = 0 }))
with_fault p (Some (Some m)) = Some (Ok m)

-- what is found at a path among all modules
abbrev pub found_in : {M S K : Type 0} → ModulesView M S K → Path
    → Option (Result M (LoadFault S K))
found_in m q = with_fault q (entry m.paths m.values q)

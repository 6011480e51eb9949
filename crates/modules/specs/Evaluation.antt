-- A reading of files and an evaluation of modules, and a workspace over them (this project's own).
use Rattle.std.specs.Prelude.{ℕ, List, Option, Some, None, Result, Ok, Err}
use Rattle.loading.specs.declared.faults.LoadFaultKind.TheVariants.{Syntax, LoadCycle}
use Rattle.loading.specs.declared.faults.Ending.{Ending}
use Rattle.loading.specs.Loads.{Path, Name, Read, LoadFault, loads_fault}
use Rattle.loading.specs.Modules.{Sources, ended}
use Rattle.load_graph.specs.Paths.{line_back}
use Rattle.modules.specs.Tables.{Table, module_at, known_at}

-- What each file is read as, or the kind and the line of its syntax fault; which names a module
-- binds; and what the module at a path comes to, with the modules that are known to it.
pub record Evaluation (T M S K : Type 0) : Type 0 where
  pub read : Path → Result (Read T) (S × ℕ)
  pub globals : M → List Name
  pub run : (Path → Option M) → Path → T → Result M (Ending K)

module _ {T M S K : Type 0} (e : Evaluation T M S K) where
  -- the workspace with modules at these paths
  abbrev pub sources : List Path → Sources T M S K
  sources paths = record { modules = paths; read = e.read; globals = e.globals; run = e.run }

  -- ---- What a module comes to, over a table of those that are known.

  -- a module that was read: the fault of its loads, or what its evaluation comes to
  abbrev pub unless : Path → Read T → Table (Result M (LoadFault S K)) → Option (LoadFault S K)
      → Result M (LoadFault S K)
  unless p r known (Some f) = Err f
  unless p r known None = ended p (e.run (known_at known) p r.tree)

  -- a module that is on no cycle: its loads come first, of which the first that fails is told
  abbrev pub linked_by : Path → Read T → Table (Result M (LoadFault S K)) → Result M (LoadFault S K)
  linked_by p r known = unless p r known (loads_fault e.globals p (module_at known) r.loads)

  -- a module that was read: a load cycle, with the line of a load that leads back, comes before all
  -- else
  abbrev pub acyclic_by : Path → Read T → Table (Result M (LoadFault S K)) → Option ℕ
      → Result M (LoadFault S K)
  acyclic_by p r known (Some line) = Err (record { kind = LoadCycle; path = p; line = line })
  acyclic_by p r known None = linked_by p r known

  -- What a module comes to, where each module has the number of its component. A syntax fault comes
  -- before all else.
  abbrev pub module_by : List ℕ → ℕ → Path → Result (Read T) (S × ℕ)
      → Table (Result M (LoadFault S K)) → Result M (LoadFault S K)
  module_by numbers own p (Err s) known = Err (record { kind = Syntax s.0; path = p; line = s.1 })
  module_by numbers own p (Ok r) known =
      acyclic_by p r known (line_back known.paths numbers own r.loads)

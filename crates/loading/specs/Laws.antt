-- What the definition of modules means, in the field's words. (docs/PROFILE.md, "Loading".)
use Rattle.std.specs.Prelude.{◌≡◌, ◌↔◌, false, List, ◌∷◌, ◌++◌, Contains, Some, IsTrue}
use Rattle.std.specs.Prelude.{Result, Ok, Err}
use Rattle.edges.specs.Walks.{Leads, OnCycle}
use Rattle.loading.specs.Loads.{Path, Load, Read}
use Rattle.loading.specs.Together.{Seen, RunsWell, AreTogether}
use Rattle.loading.specs.Modules.{Sources, file, loads_of, is_on_cycle, height_of, lower, loaded}
use Rattle.loading.specs.Modules.{Fault, cycle_line, module_of}
use Rattle.loading.specs.declared.faults.LoadFaultKind.TheVariants.{LoadCycle}

module _ {T M S K : Type 0} (w : Sources T M S K) where
  -- the test of cycles tells exactly the files from which a walk along loads leads back to
  -- themselves
  abbrev pub TellsCycles : Type 0
  TellsCycles = (p : Path) → IsTrue (is_on_cycle w p) ↔ OnCycle (loads_of w) p

  -- from the module that a load statement names, a walk along loads leads back to a file
  abbrev pub LeadsBack : Path → Load → Type 0
  LeadsBack p l = (q : Path) × (l.target ≡ Some q) × Leads (loads_of w) q p

  -- A file has no syntax fault, and has the fault of a load cycle. The fault stands at the line of
  -- one of its load statements, from whose module a walk along loads leads back to the file, and no
  -- earlier statement has such a walk.
  pub record StandsWhereCycleBegins (p : Path) : Type 0 where
    pub read : Read T
    pub is_read : file w p ≡ Ok read
    pub before : List Load
    pub first : Load
    pub behind : List Load
    pub loads : read.loads ≡ before ++ first ∷ behind
    pub back : LeadsBack p first
    pub none_before : (l : Load) → Contains before l → LeadsBack p l → ⊥
    pub line : cycle_line w p read.loads ≡ first.line
    pub fault : module_of w p ≡ Err (record { kind = LoadCycle; path = p; line = first.line })

  -- that is so of every file on a load cycle
  abbrev pub TellsCycleLines : Type 0
  TellsCycleLines = (p : Path) → OnCycle (loads_of w) p → StandsWhereCycleBegins p

  -- a module comes from what the lower ones come to
  abbrev pub ComeFromLower : Type 0
  ComeFromLower =
      (p : Path) → module_of w p ≡ loaded w p (file w p) (lower w (height_of w p) (module_of w))

  -- That settles what they come to: whatever is given to modules, to each from what is given to the
  -- lower ones, is just this.
  abbrev pub AloneComesFromLower : Type 0
  AloneComesFromLower =
      (f : Path → Result M (Fault w))
      → ((p : Path) → f p ≡ loaded w p (file w p) (lower w (height_of w p) f))
      → (p : Path) → f p ≡ module_of w p

  -- every module that a file on no cycle loads is lower than the file
  abbrev pub LoadsAreLower : Type 0
  LoadsAreLower =
      (p q : Path) → is_on_cycle w p ≡ false → Contains (loads_of w p) q
      → lower w (height_of w p) (module_of w) q ≡ Some (module_of w q)

-- where evaluation keeps coherence, all modules are coherent together
abbrev pub KeptByEach : {T M S K D I : Type 0} → Sources T M S K → Seen M D I → Type 0
KeptByEach w s = RunsWell w s → AreTogether w s

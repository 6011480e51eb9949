-- That all modules of a workspace are coherent together, where the evaluation of each keeps
-- coherence. What a depset is, its id and the owner of an id come from outside; a module owns by
-- its path. (This project's own.)
use Rattle.std.specs.Prelude.{◌≡◌, ℕ, Bool, true, Option, Some, Result, Ok, Err}
use Rattle.coherence.specs.Coherent.{Depsets, AreCoherent, AreFresh, IsMade}
use Rattle.loading.specs.Loads.{Path}
use Rattle.loading.specs.Modules.{Sources, is_module, value, any_module}
use Rattle.loading.specs.declared.faults.Ending.{Ending}

-- which depsets a module's value has; the id of a depset, and the owner and the serial of an id
pub record Seen (M D I : Type 0) : Type 0 where
  pub has : M → D → Bool
  pub id : D → I
  pub owner : I → Path
  pub serial : I → ℕ

module _ {T M S K D I : Type 0} (w : Sources T M S K) (s : Seen M D I) where
  -- the depsets of the modules that are known
  abbrev pub in_known : (Path → Option M) → Depsets D
  in_known known d = (q : Path) × (m : M) × (known q ≡ Some m) × (s.has m d ≡ true)

  -- where an evaluation makes a module, it is made from what was given, and what is new is this
  -- path's; a fault has no depsets
  abbrev pub IfMade : Path → Depsets D → Result M (Ending K) → Type 0
  IfMade p given (Ok m) = IsMade s.id s.owner s.serial p given (λ d. s.has m d ≡ true)
  IfMade p given (Err e) = Unit {0}

  -- Evaluation keeps coherence: wherever the modules that it is handed are coherent, and fresh for
  -- its path, what it makes is coherent with them, and what is new is its own.
  abbrev pub RunsWell : Type 0
  RunsWell =
      (known : Path → Option M) (p : Path) (t : T) → AreCoherent s.id s.owner (in_known known)
      → AreFresh s.id s.owner p (in_known known) → IfMade p (in_known known) (w.run known p t)

  -- every module without a fault
  abbrev pub all_known : Path → Option M
  all_known q = value (any_module w q)

  -- All modules together are coherent, and each of their depsets is owned by a module: so they are
  -- fresh for every label and for every BUILD file.
  pub record AreTogether : Type 0 where
    pub coherent : AreCoherent s.id s.owner (in_known all_known)
    pub owned : (d : D) → in_known all_known d → is_module w (s.owner (s.id d)) ≡ true

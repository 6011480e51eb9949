-- What a run begins with, and what a worker's end says of its pass. (docs/ARCHITECTURE.md,
-- "Workers"; this project's own.)
use Rattle.std.specs.Prelude.{◌≡◌, ◌⊎◌, ℕ, ◌+◌, ◌<◌, true, false, List, ◌∷◌, ◌++◌, length, Some}
use Rattle.std.specs.List.{All}
use Rattle.board.specs.declared.journal.Journal.{Journal}
use Rattle.board.specs.Journal.{edge_times}
use Rattle.board.specs.Views.{BoardView, PassView, IsNew}
use Rattle.pool.specs.Settled.{IsSound}
use Rattle.pool.specs.declared.worker.Stop.{Stop}
use Rattle.pool.specs.declared.worker.Stop.TheVariants as S
use Rattle.pool.specs.declared.worker.Ending.{Ending}
use Rattle.pool.specs.declared.worker.Ending.TheVariants as E

-- each of these is an end of a shelf for so many nodes, as `nodes` tells
abbrev pub AreEnds : {E : Type 0} → (E → ℕ) → ℕ → List E → Type 0
AreEnds nodes count ends = All (λ e. nodes e ≡ count) ends

-- With these ends and passes workers can run: 1 to 64 ends of a shelf for so many nodes, and all
-- passes of the board, one more than there are ends, of which none has done anything.
pub record CanRun {E V : Type 0} (nodes : E → ℕ) (graph : ℕ) (b : BoardView) (ends : List E)
    (passes : List (PassView V)) : Type 0 where
  pub shelves : AreEnds nodes graph ends
  pub some : 0 < length ends
  pub most : length ends < 65
  pub count : length ends + 1 ≡ length passes
  pub all : length passes ≡ b.passes
  pub new : All (IsNew b) passes

-- the journal has more seen nodes and may have seen the halt, and is the same else
abbrev pub OnlyLooked : Journal → Journal → Type 0
OnlyLooked old new = new ≡ record old { seen = new.seen; saw = new.saw }

-- how often the pass delivered the edge from node n to its user u
abbrev pub times_sent : {V : Type 0} → PassView V → ℕ → ℕ → ℕ
times_sent p n u = edge_times n u p.journal.delivered

-- who stopped at the halt saw it
abbrev pub StopSays : Stop → Journal → Type 0
StopSays S.Halted j = j.saw ≡ true
StopSays S.NoMemory j = Unit {0}

-- a worker saw that no node was left, or saw the halt, or was refused memory and set the halt
abbrev pub EndingSays : Ending → Journal → Type 0
EndingSays E.Done j = (j.least ≡ Some 0) × (j.set ≡ false)
EndingSays E.Halted j = (j.saw ≡ true) × (j.set ≡ false)
EndingSays E.NoMemory j = j.set ≡ true

-- such a worker was refused nothing
abbrev pub EndedWell : Journal → Type 0
EndedWell j = ((j.least ≡ Some 0) ⊎ (j.saw ≡ true)) × (j.set ≡ false)

module _ {V : Type 0} (step : ℕ → List V → V) (fits : ℕ → List V → Type 0) (b : BoardView) where
  -- the pass of a worker that was refused nothing
  pub record IsFine (p : PassView V) : Type 0 where
    pub sound : IsSound step fits b p
    pub ended : EndedWell p.journal

  -- a pass that did not set the halt
  pub record IsQuiet (p : PassView V) : Type 0 where
    pub sound : IsSound step fits b p
    pub unset : p.journal.set ≡ false

  -- all passes of the board, of which none set the halt and one is that of a worker
  pub record IsGathering (ps : List (PassView V)) : Type 0 where
    pub count : length ps ≡ b.passes
    pub quiet : All IsQuiet ps
    pub worker : (before : List (PassView V)) × (p : PassView V) × (rest : List (PassView V))
        × (ps ≡ before ++ p ∷ rest) × EndedWell p.journal

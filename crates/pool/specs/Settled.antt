-- What the passes of a board say of the nodes that were worked on. (This project's own.)
use Rattle.std.specs.Prelude.{◌≡◌, ℕ, ◌<◌, true, false, List, length, Option, Some, slice_index}
use Rattle.std.specs.Prelude.{slice_index_or}
use Rattle.board.specs.Journal.{times, deps}
use Rattle.board.specs.Views.{BoardView, PassView, ClosedView, IsPassOf, knows, told, is_known}

module _ {V : Type 0} where
  -- us are the known values of the nodes ns, in their order
  pub record Knows (known : ℕ → Option V) (ns : List ℕ) (us : List V) : Type 0 where
    pub len : length us ≡ length ns
    pub each : (k : ℕ) (u : V) → k < length ns
        → known (slice_index ns k) ≡ Some (slice_index_or us k u)

  -- v is the step of the known values of the dependencies of n, wherever these fit
  pub record Stepped (step : ℕ → List V → V) (fits : ℕ → List V → Type 0) (plan : List (List ℕ))
      (known : ℕ → Option V) (n : ℕ) (v : V) : Type 0 where
    pub of : List V
    pub dependencies : Knows known (deps plan n) of
    pub stepped : fits n of → v ≡ step n of

  -- the node n has such a value
  pub record Settled (step : ℕ → List V → V) (fits : ℕ → List V → Type 0) (plan : List (List ℕ))
      (known : ℕ → Option V) (n : ℕ) : Type 0 where
    pub value : V
    pub own : known n ≡ Some value
    pub stepped : Stepped step fits plan known n value

  -- each node of the list has
  abbrev pub AllSettled
      : (step : ℕ → List V → V) (fits : ℕ → List V → Type 0) (plan : List (List ℕ))
      (known : ℕ → Option V) (finished : List ℕ) → Type 0
  AllSettled step fits plan known finished =
      (n : ℕ) → 0 < times n finished → Settled step fits plan known n

  -- the pass is of the board, and each node that it finished is settled by what it knows
  pub record IsSound (step : ℕ → List V → V) (fits : ℕ → List V → Type 0) (b : BoardView)
      (p : PassView V) : Type 0 where
    pub of : IsPassOf b p
    pub settled : AllSettled step fits b.plan (knows p) p.journal.finished

  -- a closed board on which each node has a value and none is left, and nobody set the halt
  pub record IsWhole (c : ClosedView V) : Type 0 where
    pub each : (n : ℕ) → n < length c.known → is_known (told c n) ≡ true
    pub left : c.left ≡ 0
    pub halted : c.halted ≡ false

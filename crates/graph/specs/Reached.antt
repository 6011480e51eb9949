-- What is reached along dependencies. (docs/PROFILE.md, "Dependencies and nodes".)
use Rattle.std.specs.Prelude.{◌↔◌, ℕ, ◌<◌, Bool, List, length, Contains}
use Rattle.std.specs.List.{IsDistinct}
use Rattle.edges.specs.Walks.{Leads}

module _ {L : Type 0} (needs : L → List L) (asked : List L) where
  -- some walk along dependencies, perhaps of no edge, leads to it from one that is asked for
  abbrev pub IsReached : L → Type 0
  IsReached x = (r : L) × Contains asked r × Leads needs r x

  module _ (same : L → L → Bool) where
    -- all that are reached, each once
    pub record AreReached (nodes : List L) : Type 0 where
      pub once : IsDistinct same nodes
      pub all : (x : L) → Contains nodes x ↔ IsReached x

    -- more are reached than a limit
    pub record TooManyReached (limit : ℕ) : Type 0 where
      pub nodes : List L
      pub once : IsDistinct same nodes
      pub reached : (x : L) → Contains nodes x → IsReached x
      pub more : limit < length nodes

-- What a deque of node numbers holds, and what its passes know: how many nodes there are. (This
-- project's own.)
use Rattle.std.specs.Prelude.{◌≡◌, ℕ, ◌<◌, ◌⊎◌, true, false, List, [], ◌∷◌, All}
use mathlib.Core.Option.{some}
use lib.ListN.{get_elem?}
use Rattle.shelves.specs.declared.known.Known.{Known}

-- what the passes of a new deque know: the number of nodes was not told yet
abbrev pub unset : Known
unset = record { told = false; nodes = 0 }

-- what a pass knows once it was told that there are n nodes
abbrev pub told : ℕ → Known
told n = record { told = true; nodes = n }

-- a new deque is empty and has one pass; from then on all passes know one number, and each item is
-- below it
abbrev pub IsBelow : List ℕ → List Known → Type 0
IsBelow items views =
    ((items ≡ []) × (views ≡ unset ∷ []))
    ⊎ ((n : ℕ) × ((port : ℕ) (v : Known) → get_elem? views port ≡ some v → v ≡ told n)
    × All (λ x. x < n) items)

-- what a step that puts or takes numbers tells its pass: it knows what it knew, and the numbers are
-- below the number of nodes that it knows
abbrev pub Moved : Known → List ℕ → Known → Type 0
Moved v xs w = (w ≡ v) × All (λ x. x < v.nodes) xs

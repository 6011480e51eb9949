-- Tables of what modules came to (this project's own).
use Rattle.std.specs.Prelude.{ℕ, List, [], ◌∷◌, Option, None, Result, if◌then◌else◌, nat_lt}
use Rattle.std.specs.Option.{option_flatten}
use Rattle.loading.specs.Loads.{Path}
use Rattle.loading.specs.Modules.{value}
use Rattle.load_graph.specs.Paths.{entry}

-- the paths of modules, and for each what it came to, if that is known
pub record Table (R : Type 0) : Type 0 where
  pub paths : List Path
  pub known : List (Option R)

-- what the module at a path came to, if that is known
abbrev pub module_at : {R : Type 0} → Table R → Path → Option R
module_at t q = option_flatten (entry t.paths t.known q)

-- the module at a path, if it is known and has no fault
abbrev pub known_at : {M F : Type 0} → Table (Result M F) → Path → Option M
known_at t q = value (module_at t q)

-- of what is done, what stands below a height
abbrev pub lower_of : {R : Type 0} → List ℕ → ℕ → List (Option R) → List (Option R)
lower_of [] h done = []
lower_of (x ∷ heights) h [] = []
lower_of (x ∷ heights) h (r ∷ done) = (if nat_lt x h then r else None) ∷ lower_of heights h done

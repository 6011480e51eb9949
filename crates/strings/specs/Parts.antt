-- Whether bytes stand somewhere in a text, and where first. (Starlark's specification, "Membership
-- tests".)
use Rattle.std.specs.Prelude.{ℕ, suc, Bool, ◌||◌, List, [], ◌∷◌, Option, Some, None, if◌then◌else◌}
use Rattle.strings.specs.Affixes.{begins}

-- these bytes stand in a text: at its front, or in what follows its first byte
abbrev pub is_part : List ℕ → List ℕ → Bool
is_part p [] = begins p []
is_part p (y ∷ t) = begins p (y ∷ t) || is_part p t

-- a place, counted from one byte further to the front
abbrev pub one_on : Option ℕ → Option ℕ
one_on (Some i) = Some (suc i)
one_on None = None

-- the first place at which they stand
abbrev pub first_place : List ℕ → List ℕ → Option ℕ
first_place p [] = if begins p [] then Some 0 else None
first_place p (y ∷ t) = if begins p (y ∷ t) then Some 0 else one_on (first_place p t)

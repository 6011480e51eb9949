-- Which actions of a list are marked, since they may be equal to others. (This project's own.)
use Rattle.std.specs.Prelude.{Bool, true, false, List, [], ◌∷◌, set}
use Rattle.claims.specs.Owned.{Owned}
use Rattle.claims.specs.declared.commons.Common.{Common}
use Rattle.claims.specs.declared.members.Member.{Member}

-- whether a list has no item
abbrev pub is_none : {X : Type 0} → List X → Bool
is_none [] = true
is_none (x ∷ xs) = false

-- it declares nothing
abbrev pub is_bare : Owned → Bool
is_bare o = is_none o.action.outputs

-- these marks, and a mark at the place of each of these actions
abbrev pub marked_by : List Bool → List Member → List Bool
marked_by bs [] = bs
marked_by bs (m ∷ ms) = marked_by (set bs m.place true) ms

-- these marks, and a mark at each action that declares one of these common paths: it may be equal
-- to another
abbrev pub marked_all : List Bool → List Common → List Bool
marked_all bs [] = bs
marked_all bs (c ∷ cs) = marked_all (marked_by bs c.members) cs

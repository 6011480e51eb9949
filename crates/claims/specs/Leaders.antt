-- The place in a list of the first action that is equal to one of it. (docs/PROFILE.md, "Shared
-- actions"; this project's own.)
use Rattle.std.specs.Prelude.{ℕ, ◌+◌, Bool, true, ◌&&◌, nat_eq, if◌then◌else◌, List, [], ◌∷◌, ◌++◌}
use Rattle.std.specs.Prelude.{map, Option, None, Some, is_some, unwrap_or, slice_index_or}
use Rattle.std.specs.List.{position_or_len}
use Rattle.depsets.specs.Own.{Own}
use Rattle.depsets.specs.Rose.{Rose}
use Rattle.depsets.specs.declared.element.Element.{Element}
use Rattle.claims.specs.Owned.{Owned}
use Rattle.claims.specs.Same.{Compared, compared, same_action, same_parts}

module _ (listing : Rose Own → List Element) where
  -- the leader of an action: the place of the first action of the list that is equal to it
  abbrev pub leader : List Owned → Owned → ℕ
  leader os o = position_or_len (λ p. same_action listing o.action p.action) os

  -- the leaders of the actions of a list, one for each
  abbrev pub leaders : List Owned → List ℕ
  leaders os = map (leader os) os

-- whether each is at its own place, the first of which is this one
abbrev pub all_lead : ℕ → List ℕ → Bool
all_lead n [] = true
all_lead n (l ∷ ls) = nat_eq l n && all_lead (n + 1) ls

-- ---- as they are found: what was compared so far, each once, with the place where it stood first

-- what is known of the actions before: the parts that are compared, and the place of the first that
-- has them
abbrev pub Firsts : Type 0
Firsts = List (Compared × ℕ)

-- the place where the parts stood first, if they did
abbrev pub known_in : Firsts → Compared → Option ℕ
known_in [] c = None
known_in (e ∷ es) c = if same_parts c e.0 then Some e.1 else known_in es c

-- and else this one
abbrev pub first_in : Firsts → Compared → ℕ → ℕ
first_in es c n = unwrap_or (known_in es c) n

-- what was compared so far and these parts, which are added with their place if they are new
abbrev pub with_first : Firsts → Compared → ℕ → Firsts
with_first es c n = if is_some (known_in es c) then es else es ++ (c, n) ∷ []

-- only those that are marked may be equal to others
abbrev pub next_leader : Firsts → Bool → Compared → ℕ → ℕ
next_leader es marked c n = if marked then first_in es c n else n

-- and only those that are marked are kept for others to be compared with
abbrev pub next_firsts : Firsts → Bool → Compared → ℕ → Firsts
next_firsts es marked c n = if marked then with_first es c n else es

module _ (listing : Rose Own → List Element) (marks : List Bool) where
  -- the leaders of actions, the first of which is at the place
  abbrev pub leaders_from : Firsts → ℕ → List Owned → List ℕ
  leaders_from es n [] = []
  leaders_from es n (o ∷ os) =
      let c = compared listing o.action in let marked = slice_index_or marks n true in
      next_leader es marked c n ∷ leaders_from (next_firsts es marked c n) (n + 1) os

-- The actions of a list, by the first that is equal to them. (docs/PROFILE.md, "Shared actions";
-- this project's own.)
use Rattle.std.specs.Prelude.{ℕ, ◌+◌, if◌then◌else◌, List, [], ◌∷◌, ◌++◌, nat_eq, set}
use Rattle.std.specs.Prelude.{slice_index_or}
use Rattle.claims.specs.Owned.{Owned}
use Rattle.claims.specs.declared.members.Member.{Member}

-- the bucket of an action, as it is at first: empty
abbrev pub no_members : Owned → List Member
no_members o = []

-- the bucket at a place has a member more
abbrev pub put_at : List (List Member) → ℕ → Member → List (List Member)
put_at bs i m = set bs i (slice_index_or bs i [] ++ m ∷ [])

-- an action by its owner's label and by its place in the list
abbrev pub member_at : Owned → ℕ → Member
member_at o n = record { label = o.label; place = n }

-- each action, the first of which is at the place, is put into the bucket of its leader
abbrev pub put_all : List ℕ → List (List Member) → ℕ → List Owned → List (List Member)
put_all ls bs n [] = bs
put_all ls bs n (o ∷ os) = put_all ls (put_at bs (slice_index_or ls n n) (member_at o n)) (n + 1) os

-- those of a leader, of actions the first of which is at the place
abbrev pub led_from : List ℕ → ℕ → ℕ → List Owned → List Member
led_from ls l n [] = []
led_from ls l n (o ∷ os) =
    if nat_eq l (slice_index_or ls n n) then member_at o n ∷ led_from ls l (n + 1) os
    else led_from ls l (n + 1) os

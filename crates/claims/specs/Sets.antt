-- Sets of equal actions as they are found. (docs/PROFILE.md, "Shared actions"; this project's own.)
use Rattle.std.specs.Prelude.{◌≡◌, ◌||◌, Bool, true, false, if◌then◌else◌, List, [], ◌∷◌, ◌++◌, map}
use Rattle.std.specs.Prelude.{Option, None, Some}
use Rattle.std.specs.List.{AllZip, flat_map}
use Rattle.std.specs.List.Sorted.{IsPermutation, IsSorted}
use Rattle.std.specs.Str.{bytes_eq}
use Rattle.std.specs.Prelude.{option_to_list}
use Rattle.actions.specs.Ascending.{AreAscending}
use Rattle.claims.specs.Members.{label_of, place_of, member_cmp}
use Rattle.claims.specs.Telling.{is_shared}
use Rattle.claims.specs.declared.members.Member.{Member}
use Rattle.claims.specs.declared.sets.Shared.{Shared}

-- the same, in order
pub record IsSorting (ms ss : List Member) : Type 0 where
  pub permutation : IsPermutation ms ss
  pub sorted : IsSorted member_cmp ss

-- whether an action has the label of the one before it, if there is one
abbrev pub is_twin : Option Member → Member → Bool
is_twin None m = false
is_twin (Some l) m = bytes_eq l.label m.label

-- whether one of them has the label of the one before it
abbrev pub some_twin : Option Member → List Member → Bool
some_twin last [] = false
some_twin last (m ∷ ms) = is_twin last m || some_twin (Some m) ms

-- the set of equal actions that are in order, unless two of them have one owner
abbrev pub set_from : List Member → Option Shared
set_from ms =
    if some_twin None ms then None
    else Some (record { places = map place_of ms; owners = map label_of ms })

-- a set has its actions in order, the owners ascending
pub record IsSet (ms : List Member) (s : Shared) : Type 0 where
  pub order : List Member
  pub permutation : IsPermutation ms order
  pub places : s.places ≡ map place_of order
  pub owners : s.owners ≡ map label_of order
  pub ascending : AreAscending s.owners

-- what equal actions come to: a set where they are shared, and else nothing
abbrev pub IsSetOf : List Member → Option Shared → Type 0
IsSetOf ms None = is_shared (map label_of ms) ≡ false
IsSetOf ms (Some s) = (is_shared (map label_of ms) ≡ true) × IsSet ms s

-- the set of a bucket was put last, if it is one
pub record AddsSetOf (ms : List Member) (old new : List Shared) : Type 0 where
  pub set : Option Shared
  pub is : IsSetOf ms set
  pub added : new ≡ old ++ option_to_list set

-- these are the sets of buckets, of those that are one
pub record AreSetsOf (buckets : List (List Member)) (found : List Shared) : Type 0 where
  pub sets : List (Option Shared)
  pub are : AllZip IsSetOf buckets sets
  pub all : found ≡ flat_map option_to_list sets

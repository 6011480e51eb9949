-- The conflicts of a list of actions: the paths that clash, by bytes of the path, each with the
-- labels of the actions that declare it, by label and then by place in the list. (This project's
-- own rule.)
use Rattle.std.specs.Prelude.{ℕ, None, List, [], ◌∷◌, map, if◌then◌else◌}
use Rattle.std.specs.List.{flat_map}
use Rattle.depsets.specs.Own.{Own}
use Rattle.depsets.specs.Rose.{Rose}
use Rattle.depsets.specs.declared.element.Element.{Element}
use Rattle.claims.specs.Clashes.{clashes}
use Rattle.claims.specs.Commons.{commons_of}
use Rattle.claims.specs.Members.{label_of, some_clash}
use Rattle.claims.specs.Owned.{Owned}
use Rattle.claims.specs.declared.clashes.Conflict.{Conflict}
use Rattle.claims.specs.declared.commons.Common.{Common}

-- the conflict on a common path: the path with the labels of its actions
abbrev pub told : Common → Conflict
told c = record { path = c.path; labels = map label_of c.members }

module _ (listing : Rose Own → List Element) (os : List Owned) where
  -- the conflict on a common path, if two of its actions clash
  abbrev pub conflict_of : Common → List Conflict
  conflict_of c = if clashes listing c.path os then told c ∷ [] else []

  -- the conflicts of a list of actions, by bytes of the path
  abbrev pub conflicts_of : List Conflict
  conflicts_of = flat_map conflict_of (commons_of os)

-- a common path conflicts where, by the leaders of actions, one clashes with the next
abbrev pub conflict_by : List ℕ → Common → List Conflict
conflict_by ls c = if some_clash ls None c.members then told c ∷ [] else []

-- Dependencies where they lie, as the definitions of outcomes see them. (This project's own.)
use Rattle.std.specs.Prelude.{◌≡◌, List, [], ◌∷◌, map, option_map}
use Rattle.std.specs.Option.{option_or}
use Rattle.std.specs.BTreeMap.{BTreeMap, get}
use Rattle.targets.specs.Checks.{Dependency as Seen, dependency_of}
use Rattle.analysis.specs.declared.dependency.Dependency.{Dependency}
use Rattle.analysis.specs.Keyed.{Key, key_label, key_cmp, IsKey}

-- the label and the outcome of a dependency
abbrev pub dependency_seen : Dependency → Seen
dependency_seen d = (d.label.now, d.outcome.now)

-- the same of several, in their order
abbrev pub dependencies_seen : List Dependency → List Seen
dependencies_seen ds = map dependency_seen ds

-- The map has the first dependency of each label.
abbrev pub AreFound : List Seen → BTreeMap Key Dependency → Type 0
AreFound ds found =
    (q : Key) → IsKey q
    → option_map dependency_seen (get key_cmp found q) ≡ dependency_of ds (key_label q)

-- What it has for a label, it has still; and a dependency more.
abbrev pub HasMore : Dependency → BTreeMap Key Dependency → BTreeMap Key Dependency → Type 0
HasMore d olds news =
    (q : Key) → IsKey q
    → option_map dependency_seen (get key_cmp news q)
    ≡ option_or (option_map dependency_seen (get key_cmp olds q))
    (dependency_of (dependency_seen d ∷ []) (key_label q))

-- Names that are found at their first places. (This project's own.)
use Rattle.std.specs.Prelude.{◌≡◌, ℕ, List, Option, Some, if◌then◌else◌, bytes_eq}
use Rattle.std.specs.List.{position_from}
use Rattle.std.specs.BTreeMap.{BTreeMap, get}
use Rattle.std.specs.Cmp.Lexicographic.{slice_cmp}
use Rattle.std.specs.Ordering.{nat_cmp}
use Rattle.std.specs.declared.cmp.Ordering.{Ordering}

-- the first place of a name among names, if it is one of them
abbrev pub place_named : List ℕ → List (List ℕ) → Option ℕ
place_named x ns = position_from (bytes_eq x) 0 ns

-- Maps from names to places, whose keys are names or lead to them.
module _ {K : Type 0} (name : K → List ℕ) where
  -- the order of keys, by the bytes of their names
  abbrev pub name_cmp : K → K → Ordering
  name_cmp p q = slice_cmp nat_cmp (name p) (name q)

  -- the map has the first place of each name
  abbrev pub ArePlaced : List (List ℕ) → BTreeMap K ℕ → Type 0
  ArePlaced names places = (q : K) → get name_cmp places q ≡ place_named (name q) names

  -- a name has this place now, and every other the place that it had
  abbrev pub HasFirst : List ℕ → ℕ → BTreeMap K ℕ → BTreeMap K ℕ → Type 0
  HasFirst n i olds news =
      (q : K) → get name_cmp news q
      ≡ (if bytes_eq (name q) n then Some i else get name_cmp olds q)

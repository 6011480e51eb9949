-- The workspace that an input spells as JSON (docs/REPORT.md, "Input"; this project's own choice).
use Rattle.std.specs.Prelude.{◌≡◌, ◌≤◌, ℕ, List, [], ◌∷◌, Option, Some, None, length, option_map}
use Rattle.std.specs.Prelude.{option_and_then, IsUtf8}
use Rattle.serde_json.specs.Data.{Data, Items, no_items, item}
use Rattle.serde_json.specs.Find.{as_array, as_str}
use Rattle.serde_json.specs.Read.{read}
use Rattle.workspace.specs.Workspaces.{IsWorkspace, Pair}

-- the most bytes of an input
abbrev pub input_limit : ℕ
input_limit = 16777216

-- a path with its text, where there is a text
abbrev pub pair_with : List ℕ → Option (List ℕ) → Option Pair
pair_with path text = option_map (λ t. (path, t)) text

-- the pair that exactly two strings are: a path and a text
abbrev pub pair_of_items : Items → Option Pair
pair_of_items no_items = None
pair_of_items (item a no_items) = None
pair_of_items (item a (item b no_items)) =
    option_and_then (λ path. pair_with path (as_str b)) (as_str a)
pair_of_items (item a (item b (item c ds))) = None

-- an array of exactly two strings
abbrev pub pair_of : Data → Option Pair
pair_of d = option_and_then pair_of_items (as_array d)

-- a pair before other pairs, where all are pairs
abbrev pub pairs_after : Option Pair → Option (List Pair) → Option (List Pair)
pairs_after first rest = option_and_then (λ p. option_map (λ ps. p ∷ ps) rest) first

-- the pairs that some items are, where each is one
abbrev pub pairs_of_items : Items → Option (List Pair)
pairs_of_items no_items = Some []
pairs_of_items (item d ds) = pairs_after (pair_of d) (pairs_of_items ds)

-- an array of such arrays
abbrev pub pairs_of : Data → Option (List Pair)
pairs_of d = option_and_then pairs_of_items (as_array d)

-- the input has at most 16,777,216 bytes, which are the text of a JSON array of such pairs, and
-- these are a workspace
pub record Spells (input : List ℕ) (pairs : List Pair) : Type 0 where
  pub limit : length input ≤ input_limit
  pub utf8 : IsUtf8 input
  pub value : Data
  pub read : read input ≡ Some value
  pub pairs_of : pairs_of value ≡ Some pairs
  pub workspace : IsWorkspace pairs

-- The bytes that are written for a workspace (docs/REPORT.md, "From a folder to an input"; this
-- project's own choice).
use Rattle.std.specs.Prelude.{ℕ, List, [], ◌∷◌, length, if◌then◌else◌, nat_lt}
use Rattle.json.specs.Print.{print}
use Rattle.json.specs.Token.{begin_array}
use Rattle.request.specs.InputTokens.{input_tokens, pair_before, pairs_before}
use Rattle.workspace.specs.Workspaces.{Pair}

-- the array of the pairs, without a space
abbrev pub input_text : List Pair → List ℕ
input_text pairs = print (input_tokens pairs)

-- the same without its last bracket
abbrev pub begun_text : List Pair → List ℕ
begun_text pairs = print (begin_array ∷ pairs_before pairs [])

-- one pair
abbrev pub pair_text : Pair → List ℕ
pair_text pair = print (pair_before pair [])

-- a comma, but not behind the first bracket
abbrev pub comma : List ℕ → List ℕ
comma begun = if nat_lt 1 (length begun) then 44 ∷ [] else []

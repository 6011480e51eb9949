-- The tokens of JSON that an array of pairs is spelt by. (docs/REPORT.md, "Input"; this project's
-- own.)
use Rattle.std.specs.Prelude.{◌≡◌, ℕ, List, [], ◌∷◌}
use Rattle.json.specs.Token.{Token, begin_array, end_array, string}
use Rattle.workspace.specs.Workspaces.{Pair}

-- `[path, text]`, before other tokens
abbrev pub pair_before : Pair → List Token → List Token
pair_before p ts = begin_array ∷ string p.0 ∷ string p.1 ∷ end_array ∷ ts

-- all pairs, before other tokens
abbrev pub pairs_before : List Pair → List Token → List Token
pairs_before [] ts = ts
pairs_before (p ∷ ps) ts = pair_before p (pairs_before ps ts)

-- the array of all pairs, and nothing behind it
abbrev pub input_tokens : List Pair → List Token
input_tokens pairs = begin_array ∷ pairs_before pairs (end_array ∷ [])

-- the next token is the bracket that opens an array
abbrev pub BeginsArray : List Token → Type 0
BeginsArray ts = (rest : List Token) × (ts ≡ begin_array ∷ rest)

-- the next token is a string
abbrev pub BeginsString : List Token → Type 0
BeginsString ts = (s : List ℕ) × (rest : List Token) × (ts ≡ string s ∷ rest)

-- the next tokens are a whole pair
abbrev pub BeginsPair : List Token → Type 0
BeginsPair ts = (p : Pair) × (rest : List Token) × (ts ≡ pair_before p rest)

-- Whether bytes are a name, by a test. (Starlark specification, "Lexical elements";
-- docs/PROFILE.md, "Tokens".)
use Rattle.std.specs.Prelude.{ℕ, ◌+◌, Bool, false, ◌==◌, List, [], ◌∷◌, length}
use Rattle.lexer.specs.Tokens.{name}
use Rattle.lexer.specs.Begins.{Begins, token, begins}

-- what begins is a name of so many bytes
abbrev pub is_name_of : ℕ → Begins → Bool
is_name_of n (token (name w) k) = k + 1 == n
is_name_of n _ = false

-- whether bytes are a name: one begins with the first of them, and takes them all
abbrev pub spells_name : List ℕ → Bool
spells_name [] = false
spells_name (b ∷ bs) = is_name_of (length (b ∷ bs)) (begins b bs)

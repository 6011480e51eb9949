-- Texts, one after the other. (Starlark's specification, "string·join"; the limit is this project's
-- own.)
use Rattle.std.specs.Prelude.{ℕ, List, [], ◌∷◌, ◌++◌, length, nat_lt, Option, Some, None, Result}
use Rattle.std.specs.Prelude.{if◌then◌else◌}
use Rattle.strings.specs.Texts.{MOST_BYTES, unless_large}
use Rattle.strings.specs.declared.errors.StringError.{StringError}

-- with a separator between each and the next
abbrev pub glued : List ℕ → List (List ℕ) → List ℕ
glued s [] = []
glued s (t ∷ []) = t
glued s (t ∷ u ∷ ts) = t ++ s ++ glued s (u ∷ ts)

-- the text of them, or `large`
abbrev pub join_of : List ℕ → List (List ℕ) → Result (List ℕ) StringError
join_of s ts = unless_large (glued s ts)

-- how many bytes a text has, unless they are more than it may have
abbrev pub length_within : List ℕ → Option ℕ
length_within t = if nat_lt MOST_BYTES (length t) then None else Some (length t)

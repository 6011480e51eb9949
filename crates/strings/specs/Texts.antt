-- The texts of the language are lists of bytes below 128, and not longer than this project's limit.
use Rattle.std.specs.Prelude.{ℕ, Bool, true, ◌&&◌, not, nat_lt, List, [], ◌∷◌, ◌++◌, length, Result}
use Rattle.std.specs.Prelude.{Ok, Err, if◌then◌else◌}
use Rattle.strings.specs.declared.errors.StringError.{StringError}
use Rattle.strings.specs.declared.errors.StringError.TheVariants.{Large}

-- how many bytes a text has at most (this project's own)
abbrev pub MOST_BYTES : ℕ
MOST_BYTES = 1048576

-- each byte is below 128
abbrev pub is_ascii : List ℕ → Bool
is_ascii [] = true
is_ascii (b ∷ t) = nat_lt b 128 && is_ascii t

-- these bytes are a text of the language
abbrev pub is_text : List ℕ → Bool
is_text t = is_ascii t && not (nat_lt MOST_BYTES (length t))

-- a text that is made, or the fault `large`
abbrev pub unless_large : List ℕ → Result (List ℕ) StringError
unless_large t = if nat_lt MOST_BYTES (length t) then Err Large else Ok t

-- the second text behind the first (Starlark's specification, "Concatenation")
abbrev pub sum_of : List ℕ → List ℕ → Result (List ℕ) StringError
sum_of a b = unless_large (a ++ b)

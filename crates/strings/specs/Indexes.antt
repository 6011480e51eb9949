-- The byte at a place, a text of its own. (Starlark's specification, "Index expressions".)
use Rattle.std.specs.Prelude.{ℕ, zero, suc, ℤ, List, [], ◌∷◌, ◌++◌, length, Option, Some, None}
use Rattle.std.specs.Prelude.{slice_index, Result, Ok, Err}
use Rattle.numbers.specs.Places.{place_of}
use Rattle.strings.specs.declared.errors.StringError.{StringError}
use Rattle.strings.specs.declared.errors.StringError.TheVariants.{Index}

-- the texts of one byte, of the first so many bytes
abbrev pub byte_texts : ℕ → List (List ℕ)
byte_texts zero = []
byte_texts (suc n) = byte_texts n ++ (n ∷ []) ∷ []

-- the byte at a place as a text of its own; no place is the fault `index`
abbrev pub byte_at : List ℕ → Option ℕ → Result (List ℕ) StringError
byte_at t (Some i) = Ok (slice_index t i ∷ [])
byte_at t None = Err Index

-- at an index, from the end where it is negative, or the fault `index`
abbrev pub item_of : List ℕ → ℤ → Result (List ℕ) StringError
item_of t i = byte_at t (place_of i (length t))

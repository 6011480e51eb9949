-- The parts of a text between occurrences of a separator. (Starlark's specification,
-- "string·split"; the limit is this project's own.)
use Rattle.std.specs.Prelude.{ℕ, zero, suc, ◌-◌, nat_lt, nat_eq, List, [], ◌∷◌, ◌++◌, length}
use Rattle.std.specs.Prelude.{Option, Some, None, Result, Ok, Err, if◌then◌else◌}
use Rattle.numbers.specs.Ranges.{MOST_ITEMS}
use Rattle.strings.specs.Affixes.{begins}
use Rattle.strings.specs.declared.errors.StringError.{StringError}
use Rattle.strings.specs.declared.errors.StringError.TheVariants.{EmptySeparator, Large}

-- Occurrences are found from the left, without overlap: so many bytes of one are still to be
-- passed; `part` is what stands between the last one and here.
abbrev pub parts_after : List ℕ → ℕ → List ℕ → List ℕ → List (List ℕ)
parts_after sep n part [] = part ∷ []
parts_after sep (suc n) part (y ∷ t) = parts_after sep n part t
parts_after sep zero part (y ∷ t) =
    if begins sep (y ∷ t) then part ∷ parts_after sep (length sep - 1) [] t
    else parts_after sep zero (part ++ y ∷ []) t

-- the parts of a text: it alone where the separator isn't in it
abbrev pub parts : List ℕ → List ℕ → List (List ℕ)
parts sep t = parts_after sep zero [] t

-- parts, or the fault `large` where they are more than a list may have
abbrev pub unless_many : List (List ℕ) → Result (List (List ℕ)) StringError
unless_many ts = if nat_lt MOST_ITEMS (length ts) then Err Large else Ok ts

-- the parts, unless the separator is empty, or there are more than a list may have
abbrev pub split_of : List ℕ → List ℕ → Result (List (List ℕ)) StringError
split_of sep t = if nat_eq (length sep) 0 then Err EmptySeparator else unless_many (parts sep t)

-- how many parts there are, unless they are more than a list may have
abbrev pub count_within : List (List ℕ) → Option ℕ
count_within ts = if nat_lt MOST_ITEMS (length ts) then None else Some (length ts)

-- What `str` gives of a whole number. (Starlark specification, "str"; ticks, depth and size are
-- this project's own.)
use Rattle.std.specs.Prelude.{ℕ, ℤ, List}
use Rattle.std.specs.Fmt.{signed_decimal}
use Rattle.ticks.specs.Ticking.{Count, Ticking, after_tick, with_count, entered}
use Rattle.ticks.specs.declared.ticks.TheConstants.{VISITED_LEVELS}
use Rattle.printing.specs.Repr.{fits}

-- its digits, after its visit
abbrev pub number_told : ℤ → Count → Ticking (List ℕ)
number_told n c =
    after_tick (entered VISITED_LEVELS c) (λ d. with_count (fits (signed_decimal n)) d)

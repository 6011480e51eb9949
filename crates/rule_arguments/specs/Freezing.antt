-- What a call of a rule gives is frozen, one attribute after the other. (docs/PROFILE.md, "Calling
-- a rule"; this project's own.)
use Rattle.std.specs.Prelude.{List, [], ◌∷◌, Option, Some, None, Ok}
use Rattle.ticks.specs.Ticking.{Count, Ticking, then_on}
use Rattle.values.specs.declared.cells.Cell.{Cell}
use Rattle.ticks.specs.declared.ticks.TheConstants.{VISITED_LEVELS}
use Rattle.values.specs.declared.value.Value.{Value}
use Rattle.visits.specs.Freeze.{freeze_at}
use Rattle.operations.specs.Arguments.{Given}
use Rattle.targets.specs.RuleCalls.{given_as}
use Rattle.targets.specs.declared.attributes.NamedAttribute.{NamedAttribute}

-- a value costs the ticks of its visit; what isn't given costs none
abbrev pub frozen_option : Option Value → List Cell → Count → Ticking (Unit {0})
frozen_option None h c = Ok (tt, c)
frozen_option (Some v) h c = then_on (freeze_at VISITED_LEVELS h v c) (λ t d. Ok (tt, d))

-- what a call gives for these attributes is frozen, in their order: the ticks after it, or the
-- first fault
abbrev pub frozen_for : List NamedAttribute → Given → List Cell → Count → Ticking (Unit {0})
frozen_for [] g h c = Ok (tt, c)
frozen_for (a ∷ rest) g h c =
    then_on (frozen_option (given_as g a.name) h c) (λ u d. frozen_for rest g h d)

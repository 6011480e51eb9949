-- How a call answers an operation that only some have. (This project's own.)
use Rattle.std.specs.Prelude.{◌≡◌, Option, Some, None, Result}
use Rattle.values.specs.declared.value.Value.{Value}
use Rattle.ticks.specs.declared.ticks.Broken.{Broken}
use Rattle.operations.specs.declared.state.State.{State}
use Rattle.operations.specs.States.{Op, Does}

-- where there is such an operation it is done, and else nothing happens
abbrev pub DoesSome : Option (Op Value) → State → Option (Result Value Broken) → State → Type 0
DoesSome (Some f) old (Some r) new = Does f old r new
DoesSome None old None new = new ≡ old
DoesSome _ old _ new = ⊥

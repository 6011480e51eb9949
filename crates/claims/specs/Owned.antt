-- An action, and the label of the target that registered it. (This project's own.)
use Rattle.std.specs.Prelude.{ℕ, List}
use Rattle.actions.specs.declared.action.Action.{Action}

-- what is compared and told: targets may register equal actions, and then their labels tell whose
-- it is
pub record Owned : Type 0 where
  pub label : List ℕ
  pub action : Action

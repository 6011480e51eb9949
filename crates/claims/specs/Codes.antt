-- A code of an action with the label of its owner. (This project's own.)
use Rattle.std.specs.Prelude.{ℕ, List, refl}
use Rattle.std.specs.Coded.{Coded, coded×, code_by}
use Rattle.depsets.specs.Own.{text_code}
use Rattle.actions.specs.declared.action.Action.{Action}
use Rattle.actions.specs.Codes.{action_code}
use Rattle.claims.specs.Owned.{Owned}

-- the code of an action with its owner's label, which tells any two apart
abbrev pub owned_code : Coded Owned
owned_code =
    code_by (List ℕ × Action) (coded× text_code action_code) (λ o. (o.label, o.action))
    (λ p. record { label = p.0; action = p.1 }) (λ _. refl)

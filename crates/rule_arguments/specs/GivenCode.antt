-- The code of what a call gives. (This project's own.)
use Rattle.std.specs.Prelude.{ℕ, List, refl}
use Rattle.std.specs.Coded.{Coded, coded×, coded_list, code_by}
use Rattle.depsets.specs.Own.{text_code}
use Rattle.values.specs.ValueCodes.{items_code}
use Rattle.values.specs.declared.value.Value.{Value}
use Rattle.operations.specs.Arguments.{Given}

-- by position, and the names and the values of those by name
abbrev pub given_code : Coded Given
given_code =
    code_by (List Value × (List (List ℕ) × List Value))
    (coded× items_code (coded× (coded_list text_code) items_code))
    (λ g. (g.items, (g.names, g.values)))
    (λ p. record { items = p.0; names = p.1.0; values = p.1.1 }) (λ _. refl)

-- The form of a logical line, as the program keeps it: the line itself, and what belongs to it.
-- (This project's own.)
use Rattle.std.specs.Prelude.{◌≡◌, ◌≤◌, List, Option, Some, None}
use Rattle.lexer.specs.Tokens.{Token}
use Rattle.grammar.specs.Statements as written
use Rattle.grammar.specs.Statements.{SpellsForm}
use Rattle.grammar.specs.Depth.{form_depth}
use Rattle.grammar.specs.BareLines.{bare_form}
use Rattle.grammar.specs.Built.{form_body}
use Rattle.grammar.specs.FormDescent.{Shaped}

-- what a form is without what only its writing has
abbrev pub shaped : written.Form → Shaped
shaped f = (bare_form f, form_body f)

-- these tokens are those of a form with no expression that is more than 200 deep, and this is what
-- it is; or they are those of none
abbrev pub IsLineForm : List Token → Option Shaped → Type 0
IsLineForm ts (Some s) =
    (f : written.Form) × SpellsForm ts f × (form_depth f ≤ 200) × (shaped f ≡ s)
IsLineForm ts None = (f : written.Form) → SpellsForm ts f → form_depth f ≤ 200 → ⊥

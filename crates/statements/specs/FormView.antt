-- What the program's readings of lines stand for. (This project's own.)
use Rattle.std.specs.Prelude.{Bool, true, false, List, [], ◌∷◌, Option, option_map}
use Rattle.std.specs.Global.{Box}
use Rattle.grammar.specs.declared.statements.Form.{Form}
use Rattle.statements.specs.declared.blocks.Body.{Body}
use Rattle.statements.specs.declared.outline.Outline.{Outline}
use Rattle.statements.specs.declared.outline.Shape.{Shape}
use Rattle.statements.specs.declared.outline.Shape.TheVariants.{Load, Text, Plain, Return, Jump}
use Rattle.statements.specs.declared.outline.Shape.TheVariants.{Def, If, Elif, Else, For}
use Rattle.statements.specs.declared.outline.Body as outlines
use Rattle.statements.specs.declared.outline.Body.TheVariants as outlined
use Rattle.statements.specs.declared.outline.Formed.{Formed}
use Rattle.lexer.specs.Tokens.{Token, string}
use Rattle.grammar.specs.BareLines as bare
use Rattle.grammar.specs.BareLines.{loads, defines, if_head, elif_head, else_head, for_head}
use Rattle.grammar.specs.BareLines.{assigns, assigns_at, increases, increases_at, evaluates, passes}
use Rattle.grammar.specs.BareLines.{breaks, continues, returns}
use Rattle.grammar.specs.Built.{Belongs, nothing, block, statement, Made}
use Rattle.grammar.specs.Blocks.{Laid}
use Rattle.grammar.specs.FormDescent.{Shaped, reads_form}
use Rattle.grammar.specs.LineView.{form_in}
use Rattle.statements.specs.BuiltView.{body_of}

-- a form with what belongs to it, as the readings of lines give them
abbrev pub shaped_of : Box Form × Body → Shaped
shaped_of p = (form_in p.0, body_of p.1)

-- whether a line is a string alone
unfoldable pub is_text : List Token → Bool
is_text (string s ∷ []) = true
is_text _ = false

-- the outline of a line that is an expression alone: a string, behind which a `load` may still
-- stand, or another
abbrev pub value_shape : Bool → Shape
value_shape true = Text
value_shape false = Plain

-- the outline of a form, of which it is said whether its line is a string alone
abbrev pub shape_of : Bool → bare.Form → Shape
shape_of t (loads s items) = Load
shape_of t (defines x ps) = Def
shape_of t (if_head a) = If
shape_of t (elif_head a) = Elif
shape_of t else_head = Else
shape_of t (for_head x xs a) = For
shape_of t (assigns x xs a) = Plain
shape_of t (assigns_at f a b) = Plain
shape_of t (increases x a) = Plain
shape_of t (increases_at f a b) = Plain
shape_of t (evaluates a) = value_shape t
shape_of t passes = Plain
shape_of t breaks = Jump
shape_of t continues = Jump
shape_of t (returns a) = Return

-- the outline of what belongs to a line
abbrev pub body_shape : Belongs → outlines.Body
body_shape nothing = outlined.Nothing
body_shape block = outlined.Block
body_shape (statement f) = outlined.Statement (shape_of false f)

-- the outline of a line that has a form, of which it is said whether it is a string alone
abbrev pub formed_as : Bool → Shaped → Formed
formed_as t s = record { shape = shape_of t s.0; body = body_shape s.1 }

-- the outline of a logical line, by what is read of it with the limit on the depth
abbrev pub outline_read : Laid → Outline
outline_read l = record {
  line = l.line;
  column = l.column;
  form = option_map (formed_as (is_text l.tokens)) (reads_form l.tokens);
}

-- a logical line, by the same, where it has a form
abbrev pub line_read : Laid → Option Made
line_read l = option_map
    (λ s. record { number = l.line; column = l.column; form = s.0; body = s.1 })
    (reads_form l.tokens)

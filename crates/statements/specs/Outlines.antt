-- Where logical lines may stand, said of their outlines alone: line by line, with the open blocks.
-- (docs/PROFILE.md, "Statements"; outlines are this project's own.)
use Rattle.std.specs.Prelude.{ℕ, Bool, true, false, ◌&&◌, ◌==◌, nat_le, nat_lt, List, [], ◌∷◌}
use Rattle.std.specs.Prelude.{Option, Some, None, Result, Ok, Err, if◌then◌else◌}
use Rattle.statements.specs.declared.outline.Place.{Place}
use Rattle.statements.specs.declared.outline.Place.TheVariants.{Module, Build, Function, Loop}
use Rattle.statements.specs.declared.outline.Shape.{Shape}
use Rattle.statements.specs.declared.outline.Shape.TheVariants.{Load, Text, Plain, Return, Jump}
use Rattle.statements.specs.declared.outline.Shape.TheVariants.{Def, If, Elif, Else, For}
use Rattle.statements.specs.declared.outline.Body.{Body}
use Rattle.statements.specs.declared.outline.Body.TheVariants.{Nothing, Block, Statement}
use Rattle.statements.specs.declared.outline.Formed.{Formed}
use Rattle.statements.specs.declared.outline.Outline.{Outline}
use Rattle.statements.specs.declared.outline.Open.{Open}
use Rattle.lexer.specs.Layout.{◌>>=◌}
use Rattle.grammar.specs.Tree.{text}
use Rattle.grammar.specs.Statements as written
use Rattle.grammar.specs.FormReading.{form_reads}
use Rattle.grammar.specs.Depth.{form_depth}
use Rattle.grammar.specs.Places as places
use Rattle.grammar.specs.Blocks.{Laid}

-- whether a place is the top level of a file, of either kind
abbrev pub is_top : Place → Bool
is_top Module = true
is_top Build = true
is_top _ = false

-- whether a place is the top level of a `.bzl` file
abbrev pub is_module : Place → Bool
is_module Module = true
is_module _ = false

-- whether a place is in a function, in a loop of it or not
abbrev pub is_function : Place → Bool
is_function Function = true
is_function Loop = true
is_function _ = false

-- whether a place is in a loop of a function
abbrev pub is_loop : Place → Bool
is_loop Loop = true
is_loop _ = false

-- `load` at the top level, `def` at that of a module, `return`, `if` and `for` in a function,
-- `break` and `continue` in a loop, all else anywhere
abbrev pub shape_stands : Place → Shape → Bool
shape_stands p Load = is_top p
shape_stands p Text = true
shape_stands p Plain = true
shape_stands p Return = is_function p
shape_stands p Jump = is_loop p
shape_stands p Def = is_module p
shape_stands p If = is_function p
shape_stands p Elif = is_function p
shape_stands p Else = is_function p
shape_stands p For = is_function p

-- the place of what belongs to a head
abbrev pub within : Place → Shape → Place
within p Def = Function
within p For = Loop
within p _ = p

-- what belongs to a line may stand in this place: a statement by its shape, a block always, since
-- its own lines are judged one by one
abbrev pub body_stands : Place → Body → Bool
body_stands p (Statement s) = shape_stands p s
body_stands p _ = true

-- a line may stand in this place, and what belongs to it inside of that
abbrev pub formed_stands : Place → Formed → Bool
formed_stands p f = shape_stands p f.shape && body_stands (within p f.shape) f.body

-- an `elif` or `else` comes only right behind a line of its block that takes one
abbrev pub follows : Bool → Shape → Bool
follows after Elif = after
follows after Else = after
follows after _ = true

-- a line takes an `elif` or `else` behind it where it is an `if` or `elif` itself
abbrev pub takes_else : Shape → Bool
takes_else If = true
takes_else Elif = true
takes_else _ = false

-- a `load` comes only where nothing but loads and strings stands before it
abbrev pub early_enough : Bool → Shape → Bool
early_enough early Load = early
early_enough early _ = true

-- nothing but loads and strings stands before the next line
abbrev pub still_early : Bool → Shape → Bool
still_early early Load = early
still_early early Text = early
still_early early _ = false

-- a block belongs to the line, which the next line begins
abbrev pub opens : Body → Bool
opens Block = true
opens _ = false

-- a line may come next in a block
abbrev pub fits : Open → Formed → Bool
fits o f = formed_stands o.place f && (follows o.after f.shape && early_enough o.early f.shape)

-- the block that a line stands in, behind that line
abbrev pub behind : Open → Formed → Open
behind o f = record {
  column = o.column;
  place = o.place;
  after = takes_else f.shape;
  early = still_early o.early f.shape;
}

-- the block that a head opens, with the column of its lines
abbrev pub inside : Open → Formed → ℕ → Open
inside o f column =
    record { column = column; place = within o.place f.shape; after = false; early = false }

-- the top level of a file, before its first line
abbrev pub top_level : Place → Open
top_level p = record { column = 0; place = p; after = false; early = true }

-- the blocks that aren't deeper than a column
abbrev pub down_to : ℕ → List Open → List Open
down_to column [] = []
down_to column (o ∷ os) = if nat_lt column o.column then down_to column os else o ∷ os

-- the column of the block behind a head, which is that of the next line
abbrev pub block_column : Outline → Option Outline → Result ℕ ℕ
block_column head None = Err head.line
block_column head (Some l) = if nat_lt head.column l.column then Ok l.column else Err l.line

-- the open blocks behind a line of this block, which is the innermost of them
abbrev pub opened : Open → List Open → Formed → Outline → Option Outline → Result (List Open) ℕ
opened o os f l next =
    if opens f.body then
    (block_column l next >>= λ column. Ok (inside o f column ∷ behind o f ∷ os))
    else Ok (behind o f ∷ os)

-- the same of a line that is refused where it has no form, and where it may not come next in this
-- block
abbrev pub formed : Open → List Open → Outline → Option Outline → Option Formed
    → Result (List Open) ℕ
formed o os l next None = Err l.line
formed o os l next (Some f) = if fits o f then opened o os f l next else Err l.line

-- the same of a line that is refused where it doesn't stand at the column of the innermost block
abbrev pub in_block : Outline → Option Outline → List Open → Result (List Open) ℕ
in_block l next [] = Err l.line
in_block l next (o ∷ os) = if l.column == o.column then formed o os l next l.form else Err l.line

-- the open blocks behind a line, or the line that is refused
abbrev pub stepped : Outline → Option Outline → List Open → Result (List Open) ℕ
stepped l next os = in_block l next (down_to l.column os)

-- the first of these lines, if there is one
abbrev pub first_of : List Outline → Option Outline
first_of [] = None
first_of (l ∷ ls) = Some l

-- the open blocks behind lines, or the first line that is refused
unfoldable pub pass : List Outline → List Open → Result (List Open) ℕ
pass [] os = Ok os
pass (l ∷ ls) os = stepped l (first_of ls) os >>= pass ls

-- the outline of a statement on one line
abbrev pub simple_shape : written.Simple → Shape
simple_shape written.breaks = Jump
simple_shape written.continues = Jump
simple_shape written.returns = Return
simple_shape (written.returns_list l) = Return
simple_shape (written.evaluates (text s)) = Text
simple_shape s = Plain

-- the outline of what belongs to a line
abbrev pub body_of : written.Body → Body
body_of written.block = Block
body_of (written.inline s) = Statement (simple_shape s)

-- the outline of a form
abbrev pub formed_of : written.Form → Formed
formed_of (written.loads s items) = record { shape = Load; body = Nothing }
formed_of (written.simple s) = record { shape = simple_shape s; body = Nothing }
formed_of (written.defines x ps b) = record { shape = Def; body = body_of b }
formed_of (written.if_head a b) = record { shape = If; body = body_of b }
formed_of (written.elif_head a b) = record { shape = Elif; body = body_of b }
formed_of (written.else_head b) = record { shape = Else; body = body_of b }
formed_of (written.for_head x xs a b) = record { shape = For; body = body_of b }

-- of a form with an expression that is more than 200 deep there is none
abbrev pub form_outline : Option written.Form → Option Formed
form_outline None = None
form_outline (Some f) = elim (nat_le (form_depth f) 200)
    [ true ↦ Some (formed_of f) | false ↦ None ]

-- the outline of a logical line
abbrev pub outline_of : Laid → Outline
outline_of l =
    record { line = l.line; column = l.column; form = form_outline (form_reads l.tokens) }

-- a place where lines stand, as the program has it
abbrev pub place_of : places.Place → Place
place_of places.top_of_module = Module
place_of places.top_of_build = Build
place_of places.in_function = Function
place_of places.in_loop = Loop

-- The lines that the program's lines stand for. (This project's own.)
use Rattle.std.specs.Prelude.{List, [], ◌∷◌, map, option_map}
use Rattle.std.specs.Global.{Box}
use Rattle.grammar.specs.TreeView.{tree_in}
use Rattle.grammar.specs.BareLines as bare
use Rattle.grammar.specs.BareLines.{Lines, no_lines, a_line}
use Rattle.grammar.specs.declared.statements.Param.{Param}
use Rattle.grammar.specs.declared.statements.Param.TheVariants.{Required, Optional}
use Rattle.grammar.specs.declared.statements.Item.{Item}
use Rattle.grammar.specs.declared.statements.Form.{Form}
use Rattle.grammar.specs.declared.statements.Form.TheVariants.{Load, Def, If, Elif, Else, For}
use Rattle.grammar.specs.declared.statements.Form.TheVariants.{Assign, AssignAt, Add, AddAt}
use Rattle.grammar.specs.declared.statements.Form.TheVariants.{Evaluate, Pass, Break, Continue}
use Rattle.grammar.specs.declared.statements.Form.TheVariants.{Return}
use Rattle.grammar.specs.declared.statements.Line.{Line, fold-Line}
use Rattle.grammar.specs.declared.statements.Line.TheOpen.{Line-F}

-- the parameter that the program's parameter stands for
abbrev pub param_of : Param → bare.Param
param_of (Required x) = bare.required x
param_of (Optional x a) = bare.optional x (tree_in a)

-- what a `load` binds, as the program keeps it
abbrev pub item_of : Item → bare.Item
item_of i = record { binds = i.binds; asked = i.asked }

-- the line that the program's form of a line stands for
abbrev pub form_of : Form → bare.Form
form_of (Load s items) = bare.loads s (map item_of items.items)
form_of (Def x ps) = bare.defines x (map param_of ps.items)
form_of (If a) = bare.if_head (tree_in a)
form_of (Elif a) = bare.elif_head (tree_in a)
form_of Else = bare.else_head
form_of (For x xs a) = bare.for_head x xs.items (tree_in a)
form_of (Assign x xs a) = bare.assigns x xs.items (tree_in a)
form_of (AssignAt f a b) = bare.assigns_at (tree_in f) (tree_in a) (tree_in b)
form_of (Add x a) = bare.increases x (tree_in a)
form_of (AddAt f a b) = bare.increases_at (tree_in f) (tree_in a) (tree_in b)
form_of (Evaluate a) = bare.evaluates (tree_in a)
form_of Pass = bare.passes
form_of Break = bare.breaks
form_of Continue = bare.continues
form_of (Return a) = bare.returns (option_map tree_in a)

-- the line that a form behind a `Box` stands for
abbrev pub form_in : Box Form → bare.Form
form_in f = form_of f.value

-- lines before others, one after the other
abbrev pub lines_of : List (Lines → Lines) → Lines
lines_of [] = no_lines
lines_of (l ∷ ls) = l (lines_of ls)

-- a line before others, whose block is seen already
abbrev pub line_step : Line-F (Lines → Lines) → Lines → Lines
line_step l rest = a_line l.number (form_in l.form) (lines_of l.block.items) rest

-- a line of the program with its block, before others
abbrev pub line_of : Line → Lines → Lines
line_of = fold-Line (Lines → Lines) line_step

-- the lines of a file or of a block, as the program keeps them
abbrev pub lines : List Line → Lines
lines ls = lines_of (map line_of ls)

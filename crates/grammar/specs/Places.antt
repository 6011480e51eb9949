-- Where the forms of a logical line may stand.
use Rattle.std.specs.Prelude.{Bool, true, false}
use Rattle.lexer.specs.declared.file_kind.FileKind.{FileKind}
use Rattle.lexer.specs.declared.file_kind.FileKind.TheVariants.{Module, Build}
use Rattle.grammar.specs.Tree.{text}
use Rattle.grammar.specs.Statements.{Simple, evaluates, breaks, continues, returns, returns_list}
use Rattle.grammar.specs.Statements.{Body, block, inline, Form, loads, simple, defines, if_head}
use Rattle.grammar.specs.Statements.{elif_head, else_head, for_head}

-- the top level of a module or of a `BUILD` file; in a function, and there in a loop
pub data Place : Type 0 where
  top_of_module top_of_build in_function in_loop : Place

-- where the lines of the top level stand
abbrev pub top_of : FileKind → Place
top_of Module = top_of_module
top_of Build = top_of_build

-- `return` stands in a function, `break` and `continue` in a loop of one
-- (Starlark specification, "Return statements", "Break and Continue")
abbrev pub simple_stands : Place → Simple → Bool
simple_stands in_loop s = true
simple_stands in_function breaks = false
simple_stands in_function continues = false
simple_stands in_function s = true
simple_stands _ breaks = false
simple_stands _ continues = false
simple_stands _ returns = false
simple_stands _ (returns_list l) = false
simple_stands _ s = true

-- the place of what belongs to a head
abbrev pub inside_of : Place → Form → Place
inside_of p (defines x ps body) = in_function
inside_of p (for_head x xs a body) = in_loop
inside_of p f = p

-- whether what is behind the `:` of a head may stand there; a block is tested line by line
abbrev pub body_stands : Place → Body → Bool
body_stands p block = true
body_stands p (inline s) = simple_stands p s

-- whether a place is in a function, in a loop there or not
abbrev pub is_function_place : Place → Bool
is_function_place in_function = true
is_function_place in_loop = true
is_function_place _ = false

-- whether a place is the top level of a module, where alone functions are defined
abbrev pub is_module_top : Place → Bool
is_module_top top_of_module = true
is_module_top _ = false

-- whether a place is the top level of a file
abbrev pub is_top : Place → Bool
is_top in_function = false
is_top in_loop = false
is_top _ = true

-- `load` stands at the top level, `def` at that of a module (own choice: not in a `BUILD` file, not
-- in a function), `if` and `for` in a function (own choice, as Bazel's)
abbrev pub stands : Place → Form → Bool
stands p (loads s items) = is_top p
stands p (simple s) = simple_stands p s
stands p (defines x ps body) =
    elim (is_module_top p) [ true ↦ body_stands in_function body | false ↦ false ]
stands p (for_head x xs a body) =
    elim (is_function_place p) [ true ↦ body_stands in_loop body | false ↦ false ]
stands p (if_head a body) = elim (is_function_place p) [ true ↦ body_stands p body | false ↦ false ]
stands p (elif_head a body) =
    elim (is_function_place p) [ true ↦ body_stands p body | false ↦ false ]
stands p (else_head body) = elim (is_function_place p) [ true ↦ body_stands p body | false ↦ false ]

-- an `elif` or `else` follows an `if` or `elif` of its block, of which the argument says whether it
-- came just before
abbrev pub follows : Bool → Form → Bool
follows after (elif_head a body) = after
follows after (else_head body) = after
follows after f = true

-- an `elif` or `else` may come after an `if` or `elif`, not after an `else` (Starlark
-- specification, "If statements")
abbrev pub takes_else : Form → Bool
takes_else (if_head a body) = true
takes_else (elif_head a body) = true
takes_else f = false

-- a `load` stands before all other forms but a string alone (own choice), of which the argument
-- says whether only such came before
abbrev pub early_enough : Bool → Form → Bool
early_enough early (loads s items) = early
early_enough early f = true

-- whether a `load` may still come, once this form did
abbrev pub still_early : Bool → Form → Bool
still_early early (loads s items) = early
still_early early (simple (evaluates (text s))) = early
still_early early f = false

-- whether a block follows a head, with nothing behind its `:`
abbrev pub body_opens : Body → Bool
body_opens block = true
body_opens (inline s) = false

-- a block follows
abbrev pub opens : Form → Bool
opens (defines x ps body) = body_opens body
opens (if_head a body) = body_opens body
opens (elif_head a body) = body_opens body
opens (else_head body) = body_opens body
opens (for_head x xs a body) = body_opens body
opens f = false

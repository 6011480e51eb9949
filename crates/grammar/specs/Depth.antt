-- How deep an expression is. That there is a limit is this project's own choice.
use Rattle.std.specs.Prelude.{ℕ, suc, max, Bool, true, false}
use Rattle.lexer.specs.declared.layout.Bracket.{Bracket}
use Rattle.lexer.specs.declared.layout.Bracket.TheVariants.{Round}
use Rattle.grammar.specs.Tree.{Expr, identifier, integer, text, display, comprehension, conditional}
use Rattle.grammar.specs.Tree.{operation, signed, field, index, call, Member, plain, keyword, entry}
use Rattle.grammar.specs.Tree.{Members, no_members, last_member, next_member, Clauses, no_clauses}
use Rattle.grammar.specs.Tree.{for_clause, if_clause}
use Rattle.grammar.specs.Statements.{Listed, alone, followed, Simple, assigns, assigns_at}
use Rattle.grammar.specs.Statements.{increases, increases_at, evaluates, returns_list, Body, block}
use Rattle.grammar.specs.Statements.{inline, Param, required, optional, Commas, none_more, last_one}
use Rattle.grammar.specs.Statements.{and_more, Form, loads, simple, defines, if_head, elif_head}
use Rattle.grammar.specs.Statements.{else_head, for_head}

-- brackets alone: round ones around one expression without a comma
abbrev pub brackets_alone : Bracket → Members → Bool
brackets_alone Round (last_member m) = true
brackets_alone _ _ = false

-- the depth of a display over that of its members
abbrev pub one_over : Bool → ℕ → ℕ
one_over true n = n
one_over false n = suc n

-- a name or literal is 1 deep, each other form one more than the deepest of its parts, brackets
-- alone nothing more
abbrev mutual
  pub depth : Expr → ℕ
  depth (identifier x) = 1
  depth (integer n) = 1
  depth (text s) = 1
  depth (display b ms) = one_over (brackets_alone b ms) (members_depth ms)
  depth (comprehension b m cs) = suc (max (member_depth m) (clauses_depth cs))
  depth (conditional a c b) = suc (max (depth a) (max (depth c) (depth b)))
  depth (operation o a b) = suc (max (depth a) (depth b))
  depth (signed s a) = suc (depth a)
  depth (field f x) = suc (depth f)
  depth (index f a) = suc (max (depth f) (depth a))
  depth (call f ms) = suc (max (depth f) (members_depth ms))

  pub member_depth : Member → ℕ
  member_depth (plain a) = depth a
  member_depth (keyword x a) = depth a
  member_depth (entry k v) = max (depth k) (depth v)

  pub members_depth : Members → ℕ
  members_depth no_members = 0
  members_depth (last_member m) = member_depth m
  members_depth (next_member m ms) = max (member_depth m) (members_depth ms)

  pub clauses_depth : Clauses → ℕ
  clauses_depth no_clauses = 0
  clauses_depth (for_clause x xs a cs) = max (depth a) (clauses_depth cs)
  clauses_depth (if_clause a cs) = max (depth a) (clauses_depth cs)

-- the depth of the deepest of several expressions
abbrev pub deepest : Listed → ℕ
deepest (alone a) = depth a
deepest (followed a l) = max (depth a) (deepest l)

-- several expressions are a tuple, which is one more
abbrev pub listed_depth : Listed → ℕ
listed_depth (alone a) = depth a
listed_depth (followed a l) = suc (max (depth a) (deepest l))

-- the depth of the deepest expression in a form; an index that is assigned to is one
abbrev pub simple_depth : Simple → ℕ
simple_depth (assigns x xs l) = listed_depth l
simple_depth (assigns_at f a l) = max (depth (index f a)) (listed_depth l)
simple_depth (increases x a) = depth a
simple_depth (increases_at f a b) = max (depth (index f a)) (depth b)
simple_depth (evaluates a) = depth a
simple_depth (returns_list l) = listed_depth l
simple_depth _ = 0

-- the same of the statement behind the `:` of a head; 0 where a block follows
abbrev pub body_depth : Body → ℕ
body_depth block = 0
body_depth (inline s) = simple_depth s

-- the depth of the deepest default of parameters (Starlark specification, "Function definitions")
abbrev pub params_depth : Commas Param → ℕ
params_depth none_more = 0
params_depth (last_one (required x)) = 0
params_depth (last_one (optional x a)) = depth a
params_depth (and_more (required x) ps) = params_depth ps
params_depth (and_more (optional x a) ps) = max (depth a) (params_depth ps)

-- the depth of the deepest expression of a logical line, for which there is a limit
abbrev pub form_depth : Form → ℕ
form_depth (loads s items) = 0
form_depth (simple s) = simple_depth s
form_depth (defines x ps body) = max (params_depth ps) (body_depth body)
form_depth (if_head a body) = max (depth a) (body_depth body)
form_depth (elif_head a body) = max (depth a) (body_depth body)
form_depth (else_head body) = body_depth body
form_depth (for_head x xs a body) = max (depth a) (body_depth body)

-- The trees of expressions, as they are written: brackets and commas at the end can still be told
-- from them.
use Rattle.std.specs.Prelude.{ℕ, List}
use Rattle.lexer.specs.declared.layout.Bracket.{Bracket}

-- the operators between two parts (Starlark specification, "Binary operators")
pub data Operator : Type 0 where
  either both : Operator
  equal not_equal less greater less_equal greater_equal within not_within : Operator
  add subtract multiply divide remainder : Operator

-- the operators before a part: `not` and `-` (Starlark specification, "Unary operators")
pub data Sign : Type 0 where
  negation opposite : Sign

mutual
  -- an expression (Starlark specification, "Expressions"). A display is a tuple or something in
  -- brackets, a list or a dict, by its brackets; a comprehension has the brackets of what it makes
  pub data Expr : Type 0 where
    identifier : List ℕ → Expr
    integer : ℕ → Expr
    text : List ℕ → Expr
    display : Bracket → Members → Expr
    comprehension : Bracket → Member → Clauses → Expr
    conditional : Expr → Expr → Expr → Expr
    operation : Operator → Expr → Expr → Expr
    signed : Sign → Expr → Expr
    field : Expr → List ℕ → Expr
    index : Expr → Expr → Expr
    call : Expr → Members → Expr

  -- an item or a positional argument; an argument with its name; an entry of a dict
  -- (Starlark specification, "List expressions", "Function and method calls", "Dictionary
  -- expressions")
  pub data Member : Type 0 where
    plain : Expr → Member
    keyword : List ℕ → Expr → Member
    entry : Expr → Expr → Member

  -- members with a comma behind each but the last. A comma at the end has no members behind it
  pub data Members : Type 0 where
    no_members : Members
    last_member : Member → Members
    next_member : Member → Members → Members

  -- what stands behind the element of a comprehension (Starlark specification, "Comprehensions"):
  -- `for`, with its first name and its others, and `if`
  pub data Clauses : Type 0 where
    no_clauses : Clauses
    for_clause : List ℕ → List (List ℕ) → Expr → Clauses → Clauses
    if_clause : Expr → Clauses → Clauses

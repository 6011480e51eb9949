-- How tightly the forms of expressions bind, and which part may stand where.
use Rattle.std.specs.Prelude.{◌≡◌, ℕ, suc, ◌≤◌, Bool, true, false}
use Rattle.lexer.specs.declared.layout.Bracket.{Bracket}
use Rattle.lexer.specs.declared.layout.Bracket.TheVariants.{Round, Square, Curly}
use Rattle.grammar.specs.Tree.{Operator, either, both, equal, not_equal, less, greater, less_equal}
use Rattle.grammar.specs.Tree.{greater_equal, within, not_within, add, subtract, multiply, divide}
use Rattle.grammar.specs.Tree.{remainder, Sign, negation, opposite, Expr, identifier, integer, text}
use Rattle.grammar.specs.Tree.{display, comprehension, conditional, operation, signed, field, index}
use Rattle.grammar.specs.Tree.{call, Member, plain, keyword, entry, Members, no_members}
use Rattle.grammar.specs.Tree.{last_member, next_member, Clauses, no_clauses, for_clause, if_clause}

-- the level of an operator (Starlark specification, "Binary operators": precedence); 9 binds most
-- tightly
abbrev pub operator_level : Operator → ℕ
operator_level either = 2
operator_level both = 3
operator_level equal = 5
operator_level not_equal = 5
operator_level less = 5
operator_level greater = 5
operator_level less_equal = 5
operator_level greater_equal = 5
operator_level within = 5
operator_level not_within = 5
operator_level add = 6
operator_level subtract = 6
operator_level multiply = 7
operator_level divide = 7
operator_level remainder = 7

-- what stands before an operator may be of the operator's own level, but a comparison is no part of
-- another one (Starlark specification, "Binary operators": comparisons do not associate)
abbrev pub left_level : Operator → ℕ
left_level either = 2
left_level both = 3
left_level add = 6
left_level subtract = 6
left_level multiply = 7
left_level divide = 7
left_level remainder = 7
left_level _ = 6

-- `not` binds less tightly than a comparison, `-` more tightly than `*` (Starlark specification,
-- "Unary operators")
abbrev pub sign_level : Sign → ℕ
sign_level negation = 4
sign_level opposite = 8

-- the level of an expression's form
abbrev pub level : Expr → ℕ
level (identifier x) = 9
level (integer n) = 9
level (text s) = 9
level (display b ms) = 9
level (comprehension b m cs) = 9
level (conditional a c b) = 1
level (operation o a b) = operator_level o
level (signed s a) = sign_level s
level (field f x) = 9
level (index f a) = 9
level (call f ms) = 9

-- what a list of members is the inside of
pub data Held : Type 0 where
  items entries arguments : Held

-- `{` holds entries, the other brackets items
abbrev pub held : Bracket → Held
held Round = items
held Square = items
held Curly = entries

-- which members may stand where
abbrev pub allowed : Held → Member → Bool
allowed items (plain a) = true
allowed entries (entry k v) = true
allowed arguments (plain a) = true
allowed arguments (keyword x a) = true
allowed _ _ = false

-- an argument with its name (Starlark specification, "Function and method calls")
abbrev pub is_keyword : Member → Bool
is_keyword (keyword x a) = true
is_keyword _ = false

-- arguments that all have names
abbrev pub all_keywords : Members → Bool
all_keywords no_members = true
all_keywords (last_member m) = is_keyword m
all_keywords (next_member m ms) = elim (is_keyword m) [ true ↦ all_keywords ms | false ↦ false ]

-- positional arguments stand before those with names (Starlark specification, "Function and method
-- calls")
abbrev pub in_order : Members → Bool
in_order no_members = true
in_order (last_member m) = true
in_order (next_member m ms) = elim (is_keyword m) [ true ↦ all_keywords ms | false ↦ in_order ms ]

-- `[` and `{` may hold a comprehension
abbrev pub may_comprehend : Bracket → Bool
may_comprehend Round = false
may_comprehend Square = true
may_comprehend Curly = true

-- the first clause of a comprehension is a `for`
abbrev pub starts_with_for : Clauses → Bool
starts_with_for (for_clause x xs a cs) = true
starts_with_for _ = false

-- each part of an expression has the level that its place asks for (Starlark specification,
-- "Expressions"); a place inside of brackets, and the one behind `else`, takes any expression; one
-- of a clause no conditional
abbrev mutual
  pub IsTree : Expr → Type 0
  IsTree (identifier x) = Unit {0}
  IsTree (integer n) = Unit {0}
  IsTree (text s) = Unit {0}
  IsTree (display b ms) = AreMembers (held b) ms
  IsTree (comprehension b m cs) =
      (may_comprehend b ≡ true) × (allowed (held b) m ≡ true) × IsMember m
      × (starts_with_for cs ≡ true) × AreClauses cs
  IsTree (conditional a c b) = (2 ≤ level a) × IsTree a × (2 ≤ level c) × IsTree c × IsTree b
  IsTree (operation o a b) =
      (left_level o ≤ level a) × IsTree a × (suc (operator_level o) ≤ level b) × IsTree b
  IsTree (signed s a) = (sign_level s ≤ level a) × IsTree a
  IsTree (field f x) = (9 ≤ level f) × IsTree f
  IsTree (index f a) = (9 ≤ level f) × IsTree f × IsTree a
  IsTree (call f ms) = (9 ≤ level f) × IsTree f × (in_order ms ≡ true) × AreMembers arguments ms

  pub IsMember : Member → Type 0
  IsMember (plain a) = IsTree a
  IsMember (keyword x a) = IsTree a
  IsMember (entry k v) = IsTree k × IsTree v

  pub AreMembers : Held → Members → Type 0
  AreMembers h no_members = Unit {0}
  AreMembers h (last_member m) = (allowed h m ≡ true) × IsMember m
  AreMembers h (next_member m ms) = (allowed h m ≡ true) × IsMember m × AreMembers h ms

  pub AreClauses : Clauses → Type 0
  AreClauses no_clauses = Unit {0}
  AreClauses (for_clause x xs a cs) = (2 ≤ level a) × IsTree a × AreClauses cs
  AreClauses (if_clause a cs) = (2 ≤ level a) × IsTree a × AreClauses cs

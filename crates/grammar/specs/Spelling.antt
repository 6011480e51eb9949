-- The tokens that spell an expression. Each function has the tokens that come after as its last
-- argument.
use Rattle.std.specs.Prelude.{◌≡◌, ℕ, List, [], ◌∷◌}
use Rattle.lexer.specs.declared.token.Word.TheVariants.{And, Else, For, If, In, Not, Or}
use Rattle.lexer.specs.declared.token.Mark.{Mark}
use Rattle.lexer.specs.declared.token.Mark.TheVariants.{OpenParen, CloseParen, OpenBracket}
use Rattle.lexer.specs.declared.token.Mark.TheVariants.{CloseBracket, OpenBrace, CloseBrace, Comma}
use Rattle.lexer.specs.declared.token.Mark.TheVariants.{Colon, Dot, Assign, Equal, NotEqual, Less}
use Rattle.lexer.specs.declared.token.Mark.TheVariants.{Greater, LessEqual, GreaterEqual, Plus}
use Rattle.lexer.specs.declared.token.Mark.TheVariants.{Minus, Star, FloorDivide, Percent}
use Rattle.lexer.specs.declared.layout.Bracket.{Bracket}
use Rattle.lexer.specs.declared.layout.Bracket.TheVariants.{Round, Square, Curly}
use Rattle.lexer.specs.Tokens.{Token, name, number, string, word, mark}
use Rattle.grammar.specs.Tree.{Operator, either, both, equal, not_equal, less, greater, less_equal}
use Rattle.grammar.specs.Tree.{greater_equal, within, not_within, add, subtract, multiply, divide}
use Rattle.grammar.specs.Tree.{remainder, Sign, negation, opposite, Expr, identifier, integer, text}
use Rattle.grammar.specs.Tree.{display, comprehension, conditional, operation, signed, field, index}
use Rattle.grammar.specs.Tree.{call, Member, plain, keyword, entry, Members, no_members}
use Rattle.grammar.specs.Tree.{last_member, next_member, Clauses, no_clauses, for_clause, if_clause}
use Rattle.grammar.specs.Levels.{IsTree}

-- the tokens of an operator (Starlark specification, "Binary operators"); `not in` is two
abbrev pub operator_spelled : Operator → List Token → List Token
operator_spelled either ts = word Or ∷ ts
operator_spelled both ts = word And ∷ ts
operator_spelled equal ts = mark Equal ∷ ts
operator_spelled not_equal ts = mark NotEqual ∷ ts
operator_spelled less ts = mark Less ∷ ts
operator_spelled greater ts = mark Greater ∷ ts
operator_spelled less_equal ts = mark LessEqual ∷ ts
operator_spelled greater_equal ts = mark GreaterEqual ∷ ts
operator_spelled within ts = word In ∷ ts
operator_spelled not_within ts = word Not ∷ word In ∷ ts
operator_spelled add ts = mark Plus ∷ ts
operator_spelled subtract ts = mark Minus ∷ ts
operator_spelled multiply ts = mark Star ∷ ts
operator_spelled divide ts = mark FloorDivide ∷ ts
operator_spelled remainder ts = mark Percent ∷ ts

-- the token of an operator before a part (Starlark specification, "Unary operators")
abbrev pub sign_token : Sign → Token
sign_token negation = word Not
sign_token opposite = mark Minus

-- the mark that opens a bracket (Starlark specification, "Lexical elements")
abbrev pub open_mark : Bracket → Mark
open_mark Round = OpenParen
open_mark Square = OpenBracket
open_mark Curly = OpenBrace

-- the mark that closes it
abbrev pub close_mark : Bracket → Mark
close_mark Round = CloseParen
close_mark Square = CloseBracket
close_mark Curly = CloseBrace

-- names behind a first one, each behind a comma
abbrev pub names_spelled : List (List ℕ) → List Token → List Token
names_spelled [] ts = ts
names_spelled (x ∷ xs) ts = mark Comma ∷ name x ∷ names_spelled xs ts

-- the tokens of an expression (Starlark specification, "Expressions")
abbrev mutual
  pub spelled : Expr → List Token → List Token
  spelled (identifier x) ts = name x ∷ ts
  spelled (integer n) ts = number n ∷ ts
  spelled (text s) ts = string s ∷ ts
  spelled (display b ms) ts = mark (open_mark b) ∷ members_spelled ms (mark (close_mark b) ∷ ts)
  spelled (comprehension b m cs) ts =
      mark (open_mark b) ∷ member_spelled m (clauses_spelled cs (mark (close_mark b) ∷ ts))
  spelled (conditional a c b) ts = spelled a (word If ∷ spelled c (word Else ∷ spelled b ts))
  spelled (operation o a b) ts = spelled a (operator_spelled o (spelled b ts))
  spelled (signed s a) ts = sign_token s ∷ spelled a ts
  spelled (field f x) ts = spelled f (mark Dot ∷ name x ∷ ts)
  spelled (index f a) ts = spelled f (mark OpenBracket ∷ spelled a (mark CloseBracket ∷ ts))
  spelled (call f ms) ts = spelled f (mark OpenParen ∷ members_spelled ms (mark CloseParen ∷ ts))

  pub member_spelled : Member → List Token → List Token
  member_spelled (plain a) ts = spelled a ts
  member_spelled (keyword x a) ts = name x ∷ mark Assign ∷ spelled a ts
  member_spelled (entry k v) ts = spelled k (mark Colon ∷ spelled v ts)

  pub members_spelled : Members → List Token → List Token
  members_spelled no_members ts = ts
  members_spelled (last_member m) ts = member_spelled m ts
  members_spelled (next_member m ms) ts = member_spelled m (mark Comma ∷ members_spelled ms ts)

  pub clauses_spelled : Clauses → List Token → List Token
  clauses_spelled no_clauses ts = ts
  clauses_spelled (for_clause x xs a cs) ts =
      word For ∷ name x ∷ names_spelled xs (word In ∷ spelled a (clauses_spelled cs ts))
  clauses_spelled (if_clause a cs) ts = word If ∷ spelled a (clauses_spelled cs ts)

-- these tokens are those of this expression
pub record Spells (ts : List Token) (t : Expr) : Type 0 where
  pub is_tree : IsTree t
  pub whole : ts ≡ spelled t []

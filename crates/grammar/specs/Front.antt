-- What stands at the front of tokens, for reading them.
use Rattle.std.specs.Prelude.{ℕ, Bool, true, false, List, [], ◌∷◌, Option, Some, None}
use Rattle.lexer.specs.declared.token.Word.TheVariants.{And, Else, For, If, In, Not, Or}
use Rattle.lexer.specs.declared.token.Mark.TheVariants.{OpenParen, CloseParen, OpenBracket}
use Rattle.lexer.specs.declared.token.Mark.TheVariants.{CloseBracket, CloseBrace, Comma, Colon, Dot}
use Rattle.lexer.specs.declared.token.Mark.TheVariants.{Assign, Equal, NotEqual, Less, Greater}
use Rattle.lexer.specs.declared.token.Mark.TheVariants.{LessEqual, GreaterEqual, Plus, Minus, Star}
use Rattle.lexer.specs.declared.token.Mark.TheVariants.{FloorDivide, Percent}
use Rattle.lexer.specs.declared.layout.Bracket.{Bracket}
use Rattle.lexer.specs.declared.layout.Bracket.TheVariants.{Round, Square, Curly}
use Rattle.lexer.specs.Tokens.{Token, name, word, mark}
use Rattle.grammar.specs.Tree.{Operator, either, both, equal, not_equal, less, greater, less_equal}
use Rattle.grammar.specs.Tree.{greater_equal, within, not_within, add, subtract, multiply, divide}
use Rattle.grammar.specs.Tree.{remainder, Sign, negation, opposite}

-- what may come behind an expression, with the tokens behind that
pub data Next : Type 0 where
  operator : Operator → List Token → Next
  dot_next index_next call_next if_next assign_next : List Token → Next
  nothing : Next

-- what comes next behind an expression; `not in` is one operator (Starlark specification, "Binary
-- operators")
unfoldable pub next : List Token → Next
next (word Or ∷ ts) = operator either ts
next (word And ∷ ts) = operator both ts
next (mark Equal ∷ ts) = operator equal ts
next (mark NotEqual ∷ ts) = operator not_equal ts
next (mark Less ∷ ts) = operator less ts
next (mark Greater ∷ ts) = operator greater ts
next (mark LessEqual ∷ ts) = operator less_equal ts
next (mark GreaterEqual ∷ ts) = operator greater_equal ts
next (word In ∷ ts) = operator within ts
next (word Not ∷ word In ∷ ts) = operator not_within ts
next (mark Plus ∷ ts) = operator add ts
next (mark Minus ∷ ts) = operator subtract ts
next (mark Star ∷ ts) = operator multiply ts
next (mark FloorDivide ∷ ts) = operator divide ts
next (mark Percent ∷ ts) = operator remainder ts
next (mark Dot ∷ ts) = dot_next ts
next (mark OpenBracket ∷ ts) = index_next ts
next (mark OpenParen ∷ ts) = call_next ts
next (word If ∷ ts) = if_next ts
next (mark Assign ∷ ts) = assign_next ts
next _ = nothing

-- the operator before a part, where one comes next (Starlark specification, "Unary operators")
unfoldable pub sign_at : List Token → Option (Sign × List Token)
sign_at (word Not ∷ ts) = Some (negation, ts)
sign_at (mark Minus ∷ ts) = Some (opposite, ts)
sign_at _ = None

-- a name that comes next, with the tokens behind it
unfoldable pub name_at : List Token → Option (List ℕ × List Token)
name_at (name x ∷ ts) = Some (x, ts)
name_at _ = None

-- the name of an argument, where `=` is behind it
abbrev pub keyword_step : List ℕ → Next → Option (List ℕ × List Token)
keyword_step x (assign_next ts) = Some (x, ts)
keyword_step x _ = None

-- the name of an argument, and what is behind its `=`
unfoldable pub keyword_at : List Token → Option (List ℕ × List Token)
keyword_at (name x ∷ ts) = keyword_step x (next ts)
keyword_at _ = None

-- what is behind the mark that closes this bracket, where that comes next
unfoldable pub behind_close : Bracket → List Token → Option (List Token)
behind_close Round (mark CloseParen ∷ ts) = Some ts
behind_close Square (mark CloseBracket ∷ ts) = Some ts
behind_close Curly (mark CloseBrace ∷ ts) = Some ts
behind_close _ _ = None

-- what is behind a comma, where one comes next
unfoldable pub behind_comma : List Token → Option (List Token)
behind_comma (mark Comma ∷ ts) = Some ts
behind_comma _ = None

-- what is behind `:`, where that comes next
unfoldable pub behind_colon : List Token → Option (List Token)
behind_colon (mark Colon ∷ ts) = Some ts
behind_colon _ = None

-- what is behind the `else` of a conditional, where that comes next
unfoldable pub behind_else : List Token → Option (List Token)
behind_else (word Else ∷ ts) = Some ts
behind_else _ = None

-- whether `for` comes next, as behind the element of a comprehension
unfoldable pub is_for : List Token → Bool
is_for (word For ∷ ts) = true
is_for _ = false

-- the names behind commas, and the tokens behind `in`
unfoldable pub names_in : List Token → Option (List (List ℕ) × List Token)
names_in (mark Comma ∷ name x ∷ ts) =
    elim (names_in ts) [ None ↦ None | Some r ↦ Some (x ∷ r.0, r.1) ]
names_in (word In ∷ ts) = Some ([], ts)
names_in _ = None

-- how a clause of a comprehension begins: `for` with its first name and its others, `if`, or not at
-- all
pub data Head : Type 0 where
  for_head : List ℕ → List (List ℕ) → List Token → Head
  if_head : List Token → Head
  no_head : Head

-- a `for` clause with its first name, where its others and `in` were found
abbrev pub for_step : List ℕ → Option (List (List ℕ) × List Token) → Head
for_step x None = no_head
for_step x (Some r) = for_head x r.0 r.1

-- how the clause of a comprehension that comes next begins (Starlark specification,
-- "Comprehensions")
unfoldable pub head_at : List Token → Head
head_at (word For ∷ name x ∷ ts) = for_step x (names_in ts)
head_at (word If ∷ ts) = if_head ts
head_at _ = no_head

-- Reading an expression from the front of tokens, from the loosest level to the tightest.
use Rattle.std.specs.Prelude.{ℕ, zero, suc, ◌==◌, ◌&&◌, Bool, true, false, List, [], ◌∷◌, Option}
use Rattle.std.specs.Prelude.{Some, None, length}
use Rattle.lexer.specs.declared.layout.Bracket.{Bracket}
use Rattle.lexer.specs.declared.layout.Bracket.TheVariants.{Round, Square}
use Rattle.lexer.specs.Layout.{opening}
use Rattle.lexer.specs.Tokens.{Token, name, number, string, word, mark}
use Rattle.grammar.specs.Tree.{Operator, Sign, negation, opposite, Expr, identifier, integer, text}
use Rattle.grammar.specs.Tree.{display, comprehension, conditional, operation, signed, field, index}
use Rattle.grammar.specs.Tree.{call, Member, plain, keyword, entry, Members, no_members}
use Rattle.grammar.specs.Tree.{last_member, next_member, Clauses, no_clauses, for_clause, if_clause}
use Rattle.grammar.specs.Levels.{operator_level, sign_level, Held, items, entries, arguments, held}
use Rattle.grammar.specs.Levels.{in_order, may_comprehend}
use Rattle.grammar.specs.Front.{Next, operator, dot_next, index_next, call_next, if_next, next}
use Rattle.grammar.specs.Front.{sign_at, name_at, keyword_at, behind_close, behind_comma}
use Rattle.grammar.specs.Front.{behind_colon, behind_else, is_for, Head, for_head, if_head, no_head}
use Rattle.grammar.specs.Front.{head_at}

-- what reads something from the front of tokens: it gives that and the tokens behind it, or nothing
-- where they don't begin with such a thing
abbrev pub Parse : Type 0 → Type 0
Parse A = List Token → Option (A × List Token)

-- what follows a reading, where that found something
abbrev pub then_read : {A B : Type 0} → Option (A × List Token) → (A → Parse B)
    → Option (B × List Token)
then_read None f = None
then_read (Some r) f = f r.0 r.1

-- something that was read, with the tokens behind its closing bracket where that was found
abbrev pub at_close : {A : Type 0} → A → Option (List Token) → Option (A × List Token)
at_close a None = None
at_close a (Some ts) = Some (a, ts)

-- the closing bracket, behind something that was read
abbrev pub shut : {A : Type 0} → Bracket → A → Parse A
shut b a ts = at_close a (behind_close b ts)

-- where an operator is of the level: the part behind it, and what goes on from the two; else the
-- part before it alone
abbrev pub join_step : Parse Expr → (Expr → Parse Expr) → Operator → Expr → List Token → List Token
    → Bool → Option (Expr × List Token)
join_step up more o a u ts true = then_read (up u) (λ b. more (operation o a b))
join_step up more o a u ts false = Some (a, ts)

-- goes on with the operator that comes next, where it is of the level
abbrev pub chain_step : ℕ → Parse Expr → (Expr → Parse Expr) → Expr → List Token → Next
    → Option (Expr × List Token)
chain_step l up more a ts (operator o u) = join_step up more o a u ts (operator_level o == l)
chain_step l up more a ts _ = Some (a, ts)

-- goes on with operators of a level, at most so many
unfoldable pub chain : ℕ → Parse Expr → ℕ → Expr → Parse Expr
chain l up zero a ts = Some (a, ts)
chain l up (suc k) a ts = chain_step l up (chain l up k) a ts (next ts)

-- a part of the next level, and what goes on from it
abbrev pub chained : ℕ → Parse Expr → ℕ → Parse Expr
chained l up most ts = then_read (up ts) (chain l up most)

-- the levels that stand inside of tighter forms, or behind an operator of their own
pub data Row : Type 0 where
  whole operand negated opposed : Row

-- the level that is read in the place of each
abbrev pub row_level : Row → ℕ
row_level whole = 1
row_level operand = 2
row_level negated = 4
row_level opposed = 8

-- what is read behind an operator before a part
abbrev pub sign_row : Sign → Row
sign_row negation = negated
sign_row opposite = opposed

-- with what reads the expressions inside, and the most turns that a loop makes
module _ (inside : Row → Parse Expr) (most : ℕ) where
  -- the `:` behind a key, and the value
  abbrev pub value_step : Expr → Option (List Token) → Option (Member × List Token)
  value_step k None = None
  value_step k (Some u) = then_read (inside whole u) (λ v w. Some (entry k v, w))

  -- an item, or a positional argument
  abbrev pub plain_member : Parse Member
  plain_member ts = then_read (inside whole ts) (λ a u. Some (plain a, u))

  -- an argument, by whether a name and `=` come next
  abbrev pub argument_step : List Token → Option (List ℕ × List Token)
      → Option (Member × List Token)
  argument_step ts None = plain_member ts
  argument_step ts (Some r) = then_read (inside whole r.1) (λ a u. Some (keyword r.0 a, u))

  -- an item of a tuple or list, an entry of a dict, or an argument of a call
  unfoldable pub member : Held → Parse Member
  member items ts = plain_member ts
  member entries ts = then_read (inside whole ts) (λ k u. value_step k (behind_colon u))
  member arguments ts = argument_step ts (keyword_at ts)

  -- behind a member: the closing bracket, or a comma and others
  abbrev pub after_member : Parse Members → Member → Option (List Token) → Option (List Token)
      → Option (Members × List Token)
  after_member more m (Some u) c = Some (last_member m, u)
  after_member more m None (Some u) = then_read (more u) (λ ms v. Some (next_member m ms, v))
  after_member more m None None = None

  -- the closing bracket, or one member and what is behind it
  abbrev pub members_step : Parse Members → Held → Bracket → List Token → Option (List Token)
      → Option (Members × List Token)
  members_step more h b ts (Some u) = Some (no_members, u)
  members_step more h b ts None =
      then_read (member h ts)
      (λ m u. after_member more m (behind_close b u) (behind_comma u))

  -- members, and the closing bracket behind them
  unfoldable pub members : Held → Bracket → ℕ → Parse Members
  members h b zero ts = None
  members h b (suc k) ts = members_step (members h b k) h b ts (behind_close b ts)

  -- one clause more and those behind it, or the end of the clauses
  abbrev pub clauses_step : Parse Clauses → List Token → Head → Option (Clauses × List Token)
  clauses_step more ts (for_head x xs u) =
      then_read (inside operand u)
      (λ a v. then_read (more v) (λ cs w. Some (for_clause x xs a cs, w)))
  clauses_step more ts (if_head u) =
      then_read (inside operand u)
      (λ a v. then_read (more v) (λ cs w. Some (if_clause a cs, w)))
  clauses_step more ts no_head = Some (no_clauses, ts)

  -- the clauses of a comprehension, in at most so many turns (Starlark specification,
  -- "Comprehensions")
  unfoldable pub clauses : ℕ → Parse Clauses
  clauses zero ts = None
  clauses (suc k) ts = clauses_step (clauses k) ts (head_at ts)

  -- behind the first member of a display
  abbrev pub first_step : Bracket → Member → List Token → Bool → Option (Expr × List Token)
  first_step b m u true = then_read (clauses most u) (λ cs. shut b (comprehension b m cs))
  first_step b m u false =
      then_read
      (after_member (members (held b) b most) m (behind_close b u) (behind_comma u))
      (λ ms v. Some (display b ms, v))

  -- empty brackets, or what begins with a member
  abbrev pub display_step : Bracket → List Token → Option (List Token) → Option (Expr × List Token)
  display_step b ts (Some u) = Some (display b no_members, u)
  display_step b ts None =
      then_read (member (held b) ts) (λ m u. first_step b m u (is_for u && may_comprehend b))

  -- what is in brackets, where a mark opens one
  abbrev pub open_step : List Token → Option Bracket → Option (Expr × List Token)
  open_step ts None = None
  open_step ts (Some b) = display_step b ts (behind_close b ts)

  -- a name, a literal, or what is in brackets (Starlark specification, "Expressions")
  unfoldable pub atom : Parse Expr
  atom [] = None
  atom (name x ∷ ts) = Some (identifier x, ts)
  atom (number n ∷ ts) = Some (integer n, ts)
  atom (string s ∷ ts) = Some (text s, ts)
  atom (word w ∷ ts) = None
  atom (mark m ∷ ts) = open_step ts (opening m)

  -- a call, where its positional arguments come first
  abbrev pub call_step : (Expr → Parse Expr) → Expr → Members → List Token → Bool
      → Option (Expr × List Token)
  call_step more f ms ts true = more (call f ms) ts
  call_step more f ms ts false = None

  -- a field, an index or a call that comes next, and those behind it; or the expression alone
  abbrev pub suffix_step : (Expr → Parse Expr) → Expr → List Token → Next
      → Option (Expr × List Token)
  suffix_step more f ts (dot_next u) = then_read (name_at u) (λ x. more (field f x))
  suffix_step more f ts (index_next u) =
      then_read (inside whole u) (λ a v. then_read (shut Square (index f a) v) more)
  suffix_step more f ts (call_next u) =
      then_read (members arguments Round most u)
      (λ ms v. call_step more f ms v (in_order ms))
  suffix_step more f ts _ = Some (f, ts)

  -- goes on with fields, indexes and calls
  unfoldable pub suffixes : ℕ → Expr → Parse Expr
  suffixes zero f ts = Some (f, ts)
  suffixes (suc k) f ts = suffix_step (suffixes k) f ts (next ts)

  -- where an operator is of the level: it and the part behind it; else a part of the next level
  abbrev pub taken_step : Parse Expr → Sign → List Token → List Token → Bool
      → Option (Expr × List Token)
  taken_step up s u ts true = then_read (inside (sign_row s) u) (λ a v. Some (signed s a, v))
  taken_step up s u ts false = up ts

  -- an operator before a part, where one comes next and is of the level
  abbrev pub prefix_step : ℕ → Parse Expr → List Token → Option (Sign × List Token)
      → Option (Expr × List Token)
  prefix_step l up ts None = up ts
  prefix_step l up ts (Some r) = taken_step up r.0 r.1 ts (sign_level r.0 == l)

  -- an operator of a level before a part, or a part of the next level
  abbrev pub prefix : ℕ → Parse Expr → Parse Expr
  prefix l up ts = prefix_step l up ts (sign_at ts)

  -- level 9, which binds most tightly: a name, a literal or brackets, with the fields, indexes and
  -- calls behind it
  unfoldable pub e9 : Parse Expr
  e9 ts = then_read (atom ts) (suffixes most)

  -- level 8: `-` before a part
  unfoldable pub e8 : Parse Expr
  e8 ts = prefix 8 e9 ts

  -- level 7: `*`, `//` and `%`
  unfoldable pub e7 : Parse Expr
  e7 ts = chained 7 e8 most ts

  -- level 6: `+` and `-` between parts
  unfoldable pub e6 : Parse Expr
  e6 ts = chained 6 e7 most ts

  -- level 5: a comparison, of which at most one stands in a row
  unfoldable pub e5 : Parse Expr
  e5 ts = chained 5 e6 1 ts

  -- level 4: `not`
  unfoldable pub e4 : Parse Expr
  e4 ts = prefix 4 e5 ts

  -- level 3: `and`
  unfoldable pub e3 : Parse Expr
  e3 ts = chained 3 e4 most ts

  -- level 2: `or`
  unfoldable pub e2 : Parse Expr
  e2 ts = chained 2 e3 most ts

  -- the `else` of a conditional, and the expression behind it
  abbrev pub else_step : Expr → Expr → Option (List Token) → Option (Expr × List Token)
  else_step a c None = None
  else_step a c (Some u) = then_read (inside whole u) (λ b v. Some (conditional a c b, v))

  -- the `if` of a conditional where that comes next, its test and its `else`
  abbrev pub if_step : Expr → List Token → Next → Option (Expr × List Token)
  if_step a ts (if_next u) = then_read (e2 u) (λ c v. else_step a c (behind_else v))
  if_step a ts _ = Some (a, ts)

  -- level 1, which is each expression: a conditional, or one of level 2
  unfoldable pub e1 : Parse Expr
  e1 ts = then_read (e2 ts) (λ a u. if_step a u (next u))

-- with so many turns, and so many expressions inside of expressions
unfoldable pub read : ℕ → Row → Parse Expr
read zero r ts = None
read (suc n) whole ts = e1 (read n) (suc n) ts
read (suc n) operand ts = e2 (read n) (suc n) ts
read (suc n) negated ts = e4 (read n) (suc n) ts
read (suc n) opposed ts = e8 (read n) (suc n) ts

-- what was read, where nothing is left
abbrev pub if_last : Option (Expr × List Token) → Option Expr
if_last None = None
if_last (Some (t, [])) = Some t
if_last (Some (t, u ∷ ts)) = None

-- as many turns as there are tokens are enough
abbrev pub reads : List Token → Option Expr
reads ts = if_last (read (length ts) whole ts)

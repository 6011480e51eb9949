-- Reading an expression that is at most so deep: the tree without brackets alone, with its depth.
-- What begins with a sign or a bracket is refused before it is read where it would be too deep, all
-- else once its parts are read.
use Rattle.std.specs.Prelude.{ℕ, zero, suc, ◌+◌, ◌-◌, max, Bool, true, false, ◌&&◌, ◌==◌, nat_lt}
use Rattle.std.specs.Prelude.{nat_le, List, [], ◌∷◌, ◌++◌, length, Option, Some, None}
use Rattle.lexer.specs.declared.layout.Bracket.{Bracket}
use Rattle.lexer.specs.declared.layout.Bracket.TheVariants.{Round, Square, Curly}
use Rattle.grammar.specs.declared.ahead.Suffix.{Suffix}
use Rattle.grammar.specs.declared.ahead.Suffix.TheVariants as suffix
use Rattle.grammar.specs.declared.parts.Row.{Row}
use Rattle.grammar.specs.declared.parts.Row.TheVariants.{Whole, Operand, Negated, Opposed}
use Rattle.lexer.specs.Tokens.{Token}
use Rattle.grammar.specs.Tree.{Operator, Sign, negation, opposite}
use Rattle.grammar.specs.Bare.{Tree, named, numeral, quoted, tuple, listing, dict, choice, operates}
use Rattle.grammar.specs.Bare.{turned, selects, subscript, invokes, each, each_entry, Rest}
use Rattle.grammar.specs.Bare.{for_each, only_if}
use Rattle.grammar.specs.Front.{name_at, behind_close, behind_comma, behind_colon, behind_else}
use Rattle.grammar.specs.Front.{is_for, Head, for_head, if_head, no_head, head_at}
use Rattle.grammar.specs.Reading.{Parse, then_read}
use Rattle.grammar.specs.FormReading.{then_found}
use Rattle.grammar.specs.Ahead.{given, operator_at, behind_not, behind_minus, behind_if, suffix_at}
use Rattle.grammar.specs.Ahead.{named_at, number_at, string_at, bracket_at, with_rest, is_done}
use Rattle.grammar.specs.TreeView.{trees_of, entries_of, keywords_of, rests_of}

-- an expression that was read: its tree, its depth, and whether it is a name or an index as it is
-- written
pub record Part : Type 0 where
  pub tree : Tree
  pub depth : ℕ
  pub is_target : Bool

-- several expressions, and the depth of the deepest
pub record Several : Type 0 where
  pub trees : List Tree
  pub depth : ℕ

-- entries of a dict, and the depth of the deepest key or value
pub record Pairs : Type 0 where
  pub entries : List (Tree × Tree)
  pub depth : ℕ

-- the arguments of a call; whether those with names come last
pub record Arguments : Type 0 where
  pub trees : List Tree
  pub named : List (List ℕ × Tree)
  pub depth : ℕ
  pub in_order : Bool

-- the clauses of a comprehension
pub record Conditions : Type 0 where
  pub clauses : List (Rest → Rest)
  pub depth : ℕ

-- a tree over parts of a depth, where the room is greater than that: what is made is one deeper
abbrev pub over : ℕ → Bool → Tree → ℕ → Option Part
over r target t d = given (nat_lt d r) (record { tree = t; depth = suc d; is_target = target })

-- two parts with an operator between them, where there is room
abbrev pub operated : ℕ → Operator → Part → Part → Option Part
operated r o a b = over r false (operates o a.tree b.tree) (max a.depth b.depth)

-- a part with an operator before it, where there is room
abbrev pub signed_part : ℕ → Sign → Part → Option Part
signed_part r s a = over r false (turned s a.tree) a.depth

-- a conditional, where there is room, by its parts in the order of the text
abbrev pub chosen : ℕ → Part → Part → Part → Option Part
chosen r a c b = over r false (choice a.tree c.tree b.tree) (max a.depth (max c.depth b.depth))

-- a field of a part, where there is room
abbrev pub selected : ℕ → Part → List ℕ → Option Part
selected r f x = over r false (selects f.tree x) f.depth

-- an index of a part, where there is room; it can be assigned to
abbrev pub subscripted : ℕ → Part → Part → Option Part
subscripted r f a = over r true (subscript f.tree a.tree) (max f.depth a.depth)

-- a call of a part, where there is room
abbrev pub called : ℕ → Part → Arguments → Option Part
called r f s =
    over r false (invokes f.tree (trees_of s.trees) (keywords_of s.named)) (max f.depth s.depth)

-- a tuple of items, where there is room
abbrev pub tuple_part : ℕ → Several → Option Part
tuple_part r s = over r false (tuple (trees_of s.trees)) s.depth

-- a list of items, where there is room
abbrev pub list_part : ℕ → Several → Option Part
list_part r s = over r false (listing (trees_of s.trees)) s.depth

-- a dict of entries, where there is room
abbrev pub dict_part : ℕ → Pairs → Option Part
dict_part r s = over r false (dict (entries_of s.entries)) s.depth

-- a list comprehension by its element and its clauses, where there is room
abbrev pub list_each_part : ℕ → Part → Conditions → Option Part
list_each_part r a c = over r false (each a.tree (rests_of c.clauses)) (max a.depth c.depth)

-- a dict comprehension by its entry and its clauses, where there is room
abbrev pub dict_each_part : ℕ → Part × Part → Conditions → Option Part
dict_each_part r e c =
    over r false (each_entry e.0.tree e.1.tree (rests_of c.clauses))
    (max (max e.0.depth e.1.depth) c.depth)

-- what can be assigned to: a name, or an index of a tree
pub data Target : Type 0 where
  target_name : List ℕ → Target
  target_at : Tree → Tree → Target

-- the target that a tree is, if it is one
abbrev pub target_in : Tree → Option Target
target_in (named x) = Some (target_name x)
target_in (subscript f a) = Some (target_at f a)
target_in _ = None

-- what stands alone in brackets is no target
abbrev pub bracketed : Part → Part
bracketed a = record { tree = a.tree; depth = a.depth; is_target = false }

-- no expressions yet
abbrev pub no_items : Several
no_items = record { trees = []; depth = 0 }

-- one expression more, at the end
abbrev pub with_item : Several → Part → Several
with_item s a = record { trees = s.trees ++ a.tree ∷ []; depth = max s.depth a.depth }

-- no entries yet
abbrev pub no_pairs : Pairs
no_pairs = record { entries = []; depth = 0 }

-- one entry more, at the end
abbrev pub with_pair : Pairs → Part × Part → Pairs
with_pair s e = record {
  entries = s.entries ++ (e.0.tree, e.1.tree) ∷ [];
  depth = max s.depth (max e.0.depth e.1.depth);
}

-- an argument: positional, or with a name
pub data Argument : Type 0 where
  positional : Part → Argument
  keyword : List ℕ → Part → Argument

-- no arguments yet
abbrev pub no_arguments : Arguments
no_arguments = record { trees = []; named = []; depth = 0; in_order = true }

-- whether no argument has a name, so that a positional one may follow
abbrev pub none_named : List (List ℕ × Tree) → Bool
none_named [] = true
none_named (k ∷ ks) = false

-- one argument more. A positional one behind one with a name is not in order (Starlark
-- specification, "Function and method calls")
abbrev pub with_argument : Arguments → Argument → Arguments
with_argument s (positional a) = record {
  trees = s.trees ++ a.tree ∷ [];
  named = s.named;
  depth = max s.depth a.depth;
  in_order = s.in_order && none_named s.named;
}
with_argument s (keyword x a) = record {
  trees = s.trees;
  named = s.named ++ (x, a.tree) ∷ [];
  depth = max s.depth a.depth;
  in_order = s.in_order;
}

-- no clauses yet
abbrev pub no_conditions : Conditions
no_conditions = record { clauses = []; depth = 0 }

-- one `for` clause more, with its first name, its other names and what it goes over
abbrev pub with_for : Conditions → List ℕ → List (List ℕ) → Part → Conditions
with_for s x xs a =
    record { clauses = s.clauses ++ for_each x xs a.tree ∷ []; depth = max s.depth a.depth }

-- one `if` clause more, with its test
abbrev pub with_if : Conditions → Part → Conditions
with_if s a = record { clauses = s.clauses ++ only_if a.tree ∷ []; depth = max s.depth a.depth }

-- what was made, behind a closing bracket
abbrev pub closed_with : Option Part → Option (List Token) → Option (Part × List Token)
closed_with o None = None
closed_with o (Some u) = with_rest o u

-- an operator that comes next, with the part behind it, and what goes on from the two; or the part
-- before it alone
abbrev pub join_step : (ℕ → Parse Part) → (Part → Parse Part) → ℕ → Part
    → Option (Operator × List Token) → List Token → Option (Part × List Token)
join_step up more r a None ts = Some (a, ts)
join_step up more r a (Some p) ts =
    then_read (up (r - 1) p.1) (λ b v. then_found (operated r p.0 a b) (λ c. more c v))

-- goes on with operators of a level, at most so many
unfoldable pub chain : ℕ → (ℕ → Parse Part) → ℕ → ℕ → Part → Parse Part
chain l up r zero a ts = Some (a, ts)
chain l up r (suc k) a ts = join_step up (chain l up r k) r a (operator_at l ts) ts

-- behind a thing: the closing bracket, or a comma and more things
abbrev pub after_one : {S : Type 0} → (S → Parse S) → S → Option (List Token) → Option (List Token)
    → Option (S × List Token)
after_one more s (Some u) c = Some (s, u)
after_one more s None (Some u) = more s u
after_one more s None None = None

-- the closing bracket, or one thing and what is behind it
abbrev pub gather_step : {S M : Type 0} → Parse M → (S → M → S) → (S → Parse S) → Bracket → S
    → List Token → Option (List Token) → Option (S × List Token)
gather_step one add more b s ts (Some u) = Some (s, u)
gather_step one add more b s ts None =
    then_read (one ts) (λ m u. after_one more (add s m) (behind_close b u) (behind_comma u))

-- things with commas, and the closing bracket behind them: each is added to what was made of those
-- before. It makes at most so many turns
unfoldable pub gather : {S M : Type 0} → Parse M → (S → M → S) → Bracket → ℕ → S → Parse S
gather one add b zero s ts = None
gather one add b (suc k) s ts = gather_step one add (gather one add b k) b s ts (behind_close b ts)

-- with what reads the expressions inside, and the most turns that a loop makes
module _ (inside : Row → ℕ → Parse Part) (most : ℕ) where
  -- the `:` behind a key, and the value
  abbrev pub value_step : ℕ → Part → Option (List Token) → Option ((Part × Part) × List Token)
  value_step r k None = None
  value_step r k (Some u) = then_read (inside Whole r u) (λ v w. Some ((k, v), w))

  -- an entry of a dict: a key, `:` and its value
  unfoldable pub pair : ℕ → Parse (Part × Part)
  pair r ts = then_read (inside Whole r ts) (λ k u. value_step r k (behind_colon u))

  -- an argument, by whether a name and `=` come next
  abbrev pub argument_step : ℕ → List Token → Option (List ℕ × List Token)
      → Option (Argument × List Token)
  argument_step r ts None = then_read (inside Whole r ts) (λ a u. Some (positional a, u))
  argument_step r ts (Some p) = then_read (inside Whole r p.1) (λ a u. Some (keyword p.0 a, u))

  -- an argument, positional or with its name
  unfoldable pub argument : ℕ → Parse Argument
  argument r ts = argument_step r ts (named_at ts)

  -- the further items of a tuple or a list, up to the closing bracket
  unfoldable pub items : ℕ → Bracket → Several → Parse Several
  items r b s ts = gather (inside Whole r) with_item b most s ts

  -- the further entries of a dict, up to the closing bracket
  unfoldable pub pairs : ℕ → Pairs → Parse Pairs
  pairs r s ts = gather (pair r) with_pair Curly most s ts

  -- the arguments of a call, up to the closing bracket
  unfoldable pub arguments : ℕ → Parse Arguments
  arguments r ts = gather (argument r) with_argument Round most no_arguments ts

  -- one clause more and those behind it, or the end of the clauses
  abbrev pub clauses_step : (Conditions → Parse Conditions) → ℕ → Conditions → List Token → Head
      → Option (Conditions × List Token)
  clauses_step more r s ts (for_head x xs u) =
      then_read (inside Operand r u) (λ a. more (with_for s x xs a))
  clauses_step more r s ts (if_head u) = then_read (inside Operand r u) (λ a. more (with_if s a))
  clauses_step more r s ts no_head = Some (s, ts)

  -- the clauses of a comprehension, each added to those before, in at most so many turns
  unfoldable pub clauses : ℕ → ℕ → Conditions → Parse Conditions
  clauses r zero s ts = None
  clauses r (suc k) s ts = clauses_step (clauses r k) r s ts (head_at ts)

  -- behind the first item in round brackets: what is alone is itself, and a comma makes a tuple
  abbrev pub round_step : ℕ → Part → Option (List Token) → Option (List Token)
      → Option (Part × List Token)
  round_step r a (Some u) c = Some (bracketed a, u)
  round_step r a None (Some u) =
      then_read (items (r - 1) Round (with_item no_items a) u) (λ s v. with_rest (tuple_part r s) v)
  round_step r a None None = None

  -- `()`, which is the empty tuple, or what begins with an item
  abbrev pub round_open : ℕ → List Token → Option (List Token) → Option (Part × List Token)
  round_open r ts (Some u) = with_rest (tuple_part r no_items) u
  round_open r ts None =
      then_read (inside Whole r ts) (λ a u. round_step r a (behind_close Round u) (behind_comma u))

  -- what is behind `(`: a tuple, or an expression in brackets
  unfoldable pub round : ℕ → Parse Part
  round r ts = round_open r ts (behind_close Round ts)

  -- behind the first item in square brackets: the clauses of a comprehension, or the rest of a list
  abbrev pub square_step : ℕ → Part → List Token → Bool → Option (Part × List Token)
  square_step r a u true =
      then_read (clauses (r - 1) most no_conditions u)
      (λ c v. closed_with (list_each_part r a c) (behind_close Square v))
  square_step r a u false =
      then_read
      (after_one (items (r - 1) Square) (with_item no_items a) (behind_close Square u)
      (behind_comma u))
      (λ s v. with_rest (list_part r s) v)

  -- `[]`, which is the empty list, or what begins with an item
  abbrev pub square_open : ℕ → List Token → Option (List Token) → Option (Part × List Token)
  square_open r ts (Some u) = with_rest (list_part r no_items) u
  square_open r ts None = then_read (inside Whole (r - 1) ts) (λ a u. square_step r a u (is_for u))

  -- what is behind `[`: a list, or a comprehension of one
  unfoldable pub square : ℕ → Parse Part
  square r ts = square_open r ts (behind_close Square ts)

  -- behind the first entry in curly brackets: the clauses of a comprehension, or the rest of a dict
  abbrev pub curly_step : ℕ → Part × Part → List Token → Bool → Option (Part × List Token)
  curly_step r e u true =
      then_read (clauses (r - 1) most no_conditions u)
      (λ c v. closed_with (dict_each_part r e c) (behind_close Curly v))
  curly_step r e u false =
      then_read
      (after_one (pairs (r - 1)) (with_pair no_pairs e) (behind_close Curly u) (behind_comma u))
      (λ s v. with_rest (dict_part r s) v)

  -- `{}`, which is the empty dict, or what begins with an entry
  abbrev pub curly_open : ℕ → List Token → Option (List Token) → Option (Part × List Token)
  curly_open r ts (Some u) = with_rest (dict_part r no_pairs) u
  curly_open r ts None = then_read (pair (r - 1) ts) (λ e u. curly_step r e u (is_for u))

  -- what is behind `{`: a dict, or a comprehension of one
  unfoldable pub curly : ℕ → Parse Part
  curly r ts = curly_open r ts (behind_close Curly ts)

  -- what is in brackets, by the bracket that comes next, if one does
  abbrev pub display_step : ℕ → Option (Bracket × List Token) → Option (Part × List Token)
  display_step r None = None
  display_step r (Some (Round, u)) = round r u
  display_step r (Some (Square, u)) = square r u
  display_step r (Some (Curly, u)) = curly r u

  -- a string that comes next, or what is in brackets
  abbrev pub string_step : ℕ → List Token → Option (List ℕ × List Token)
      → Option (Part × List Token)
  string_step r ts (Some p) = with_rest (over r false (quoted p.0) 0) p.1
  string_step r ts None = display_step r (bracket_at ts)

  -- a number that comes next, or one of the others
  abbrev pub number_step : ℕ → List Token → Option (ℕ × List Token) → Option (Part × List Token)
  number_step r ts (Some p) = with_rest (over r false (numeral p.0) 0) p.1
  number_step r ts None = string_step r ts (string_at ts)

  -- a name that comes next, or one of the others
  abbrev pub name_step : ℕ → List Token → Option (List ℕ × List Token) → Option (Part × List Token)
  name_step r ts (Some p) = with_rest (over r true (named p.0) 0) p.1
  name_step r ts None = number_step r ts (number_at ts)

  -- a name, a literal, or what is in brackets (Starlark specification, "Expressions")
  unfoldable pub atom : ℕ → Parse Part
  atom r ts = name_step r ts (name_at ts)

  -- a call, where its positional arguments come first
  abbrev pub call_step : ℕ → Part → Arguments → List Token → Bool → Option (Part × List Token)
  call_step r f s ts true = with_rest (called r f s) ts
  call_step r f s ts false = None

  -- one field, index or call
  unfoldable pub suffixed : ℕ → Part → Suffix → Parse Part
  suffixed r f suffix.Attribute u = then_read (name_at u) (λ x v. with_rest (selected r f x) v)
  suffixed r f suffix.Index u =
      then_read (inside Whole (r - 1) u)
      (λ a v. closed_with (subscripted r f a) (behind_close Square v))
  suffixed r f suffix.Call u = then_read (arguments (r - 1) u) (λ s v. call_step r f s v s.in_order)

  -- a field, an index or a call that comes next, and those behind it; or the part alone
  abbrev pub suffix_step : (Part → Parse Part) → ℕ → Part → List Token
      → Option (Suffix × List Token) → Option (Part × List Token)
  suffix_step more r f ts None = Some (f, ts)
  suffix_step more r f ts (Some p) = then_read (suffixed r f p.0 p.1) more

  -- goes on with fields, indexes and calls, at most so many
  unfoldable pub suffixes : ℕ → ℕ → Part → Parse Part
  suffixes r zero f ts = Some (f, ts)
  suffixes r (suc k) f ts = suffix_step (suffixes r k) r f ts (suffix_at ts)

  -- level 9, which binds most tightly: a name, a literal or brackets, with the fields, indexes and
  -- calls behind it
  unfoldable pub e9 : ℕ → Parse Part
  e9 r ts = then_read (atom r ts) (suffixes r most)

  -- the operator before a part where that comes next, or a part of the next level
  abbrev pub sign_step : Sign → Row → (ℕ → Parse Part) → ℕ → List Token → Option (List Token)
      → Option (Part × List Token)
  sign_step s row up r ts None = up r ts
  sign_step s row up r ts (Some u) =
      then_read (inside row (r - 1) u) (λ a v. with_rest (signed_part r s a) v)

  -- level 8: `-` before a part
  unfoldable pub e8 : ℕ → Parse Part
  e8 r ts = sign_step opposite Opposed e9 r ts (behind_minus ts)

  -- level 7: `*`, `//` and `%`
  unfoldable pub e7 : ℕ → Parse Part
  e7 r ts = then_read (e8 r ts) (chain 7 e8 r most)

  -- level 6: `+` and `-` between parts
  unfoldable pub e6 : ℕ → Parse Part
  e6 r ts = then_read (e7 r ts) (chain 6 e7 r most)

  -- level 5: a comparison, of which at most one stands in a row
  unfoldable pub e5 : ℕ → Parse Part
  e5 r ts = then_read (e6 r ts) (chain 5 e6 r 1)

  -- level 4: `not`
  unfoldable pub e4 : ℕ → Parse Part
  e4 r ts = sign_step negation Negated e5 r ts (behind_not ts)

  -- level 3: `and`
  unfoldable pub e3 : ℕ → Parse Part
  e3 r ts = then_read (e4 r ts) (chain 3 e4 r most)

  -- level 2: `or`
  unfoldable pub e2 : ℕ → Parse Part
  e2 r ts = then_read (e3 r ts) (chain 2 e3 r most)

  -- the `else` of a conditional, and the expression behind it
  abbrev pub else_step : ℕ → Part → Part → Option (List Token) → Option (Part × List Token)
  else_step r a c None = None
  else_step r a c (Some u) =
      then_read (inside Whole (r - 1) u) (λ b v. with_rest (chosen r a c b) v)

  -- the `if` of a conditional where that comes next, its test and its `else`
  abbrev pub if_step : ℕ → Part → List Token → Option (List Token) → Option (Part × List Token)
  if_step r a ts None = Some (a, ts)
  if_step r a ts (Some u) = then_read (e2 (r - 1) u) (λ c v. else_step r a c (behind_else v))

  -- level 1, which is each expression: a conditional, or one of level 2
  unfoldable pub e1 : ℕ → Parse Part
  e1 r ts = then_read (e2 r ts) (λ a u. if_step r a u (behind_if u))

  -- the levels by their numbers, from 2 on (`operator_level`, `sign_level`)
  abbrev pub level : ℕ → ℕ → Parse Part
  level (suc (suc zero)) = e2
  level (suc (suc (suc zero))) = e3
  level (suc (suc (suc (suc zero)))) = e4
  level (suc (suc (suc (suc (suc zero))))) = e5
  level (suc (suc (suc (suc (suc (suc zero)))))) = e6
  level (suc (suc (suc (suc (suc (suc (suc zero))))))) = e7
  level _ = e8

  -- how many operators of a level may follow one another: comparisons are not chained
  abbrev pub in_a_row : ℕ → ℕ
  in_a_row l = elim (l == 5) [ true ↦ 1 | false ↦ most ]

  -- goes on with the operators of a level
  abbrev pub joined : ℕ → ℕ → Part → Parse Part
  joined l r = chain l (level (l + 1)) r (in_a_row l)

  -- goes on with the operators of the levels below one, from the tightest down to a level
  unfoldable pub onward : ℕ → ℕ → ℕ → Part → Parse Part
  onward l r zero a ts = Some (a, ts)
  onward l r (suc top) a ts =
      elim (nat_le l top)
      [ true ↦ then_read (joined top r a ts) (onward l r top) | false ↦ Some (a, ts) ]

  -- behind `not`
  abbrev pub negated : ℕ → Parse Part
  negated r u = then_read (inside Negated (r - 1) u) (λ a v. with_rest (signed_part r negation a) v)

  -- an expression, by which ones may stand in its place
  abbrev pub row : Row → ℕ → Parse Part
  row Whole = e1
  row Operand = e2
  row Negated = e4
  row Opposed = e8

-- with so many turns and so many expressions inside of expressions, and this much room for the
-- depth
unfoldable pub read : ℕ → Row → ℕ → Parse Part
read zero w r ts = None
read (suc n) w zero ts = None
read (suc n) w (suc r) ts = row (read n) (suc n) w (suc r) ts

-- what was read, where nothing is left
abbrev pub if_all : Option (Part × List Token) → Option Tree
if_all None = None
if_all (Some p) = given (is_done p.1) p.0.tree

-- as many turns as there are tokens are enough; an expression is at most 200 deep, which is this
-- project's own choice
unfoldable pub reads_all : List Token → Option Tree
reads_all ts = if_all (read (length ts) Whole 200 ts)

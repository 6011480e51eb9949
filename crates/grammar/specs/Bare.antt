-- The tree of an expression without what only its writing has: brackets alone and commas at the end
-- add nothing.
use Rattle.std.specs.Prelude.{ℕ, List, Option, Some, None}
use Rattle.lexer.specs.declared.layout.Bracket.{Bracket}
use Rattle.lexer.specs.declared.layout.Bracket.TheVariants.{Round, Square, Curly}
use Rattle.grammar.specs.Tree.{Operator, Sign, Expr, identifier, integer, text, display}
use Rattle.grammar.specs.Tree.{comprehension, conditional, operation, signed, field, index, call}
use Rattle.grammar.specs.Tree.{Member, plain, keyword, entry, Members, no_members, last_member}
use Rattle.grammar.specs.Tree.{next_member, Clauses, no_clauses, for_clause, if_clause}

mutual
  -- what an expression means is said of this (Starlark specification, "Expressions")
  pub data Tree : Type 0 where
    named : List ℕ → Tree
    numeral : ℕ → Tree
    quoted : List ℕ → Tree
    tuple : Trees → Tree
    listing : Trees → Tree
    dict : Entries → Tree
    -- `a if c else b`, in this order
    choice : Tree → Tree → Tree → Tree
    operates : Operator → Tree → Tree → Tree
    turned : Sign → Tree → Tree
    selects : Tree → List ℕ → Tree
    subscript : Tree → Tree → Tree
    invokes : Tree → Trees → Keywords → Tree
    -- a comprehension of a list, and one of a dict with its key and value
    each : Tree → Rest → Tree
    each_entry : Tree → Tree → Rest → Tree

  -- trees one after the other: items, or positional arguments
  pub data Trees : Type 0 where
    no_trees : Trees
    more_trees : Tree → Trees → Trees

  -- the keys and values of a dict, in their order
  pub data Entries : Type 0 where
    no_entries : Entries
    more_entries : Tree → Tree → Entries → Entries

  -- arguments with their names, in their order
  pub data Keywords : Type 0 where
    no_keywords : Keywords
    more_keywords : List ℕ → Tree → Keywords → Keywords

  -- the clauses of a comprehension, its first `for` as the others
  pub data Rest : Type 0 where
    done : Rest
    for_each : List ℕ → List (List ℕ) → Tree → Rest → Rest
    only_if : Tree → Rest → Rest

-- a display by its brackets: what stands alone in round ones is itself, and a tuple has a comma
-- (Starlark specification, "Tuple expressions", "List expressions", "Dictionary expressions")
abbrev pub displayed : Bracket → Option Tree → Trees → Entries → Tree
displayed Round (Some t) ts es = t
displayed Round None ts es = tuple ts
displayed Square o ts es = listing ts
displayed Curly o ts es = dict es

-- `(e)` is the tree of `e`
abbrev mutual
  pub bare : Expr → Tree
  bare (identifier x) = named x
  bare (integer n) = numeral n
  bare (text s) = quoted s
  bare (display b ms) = displayed b (alone_of ms) (plain_of ms) (entries_of ms)
  bare (comprehension b m cs) = each_member m (rest_of cs)
  bare (conditional a c b) = choice (bare a) (bare c) (bare b)
  bare (operation o a b) = operates o (bare a) (bare b)
  bare (signed s a) = turned s (bare a)
  bare (field f x) = selects (bare f) x
  bare (index f a) = subscript (bare f) (bare a)
  bare (call f ms) = invokes (bare f) (plain_of ms) (keywords_of ms)

  -- the member that stands alone, with no comma behind it
  pub alone_of : Members → Option Tree
  alone_of no_members = None
  alone_of (last_member m) = Some (alone m)
  alone_of (next_member m ms) = None

  -- one member; in brackets alone it is an item
  pub alone : Member → Tree
  alone (plain a) = bare a
  alone (keyword x a) = bare a
  alone (entry k v) = bare v

  -- a comprehension, by its element: an entry makes it one of a dict
  pub each_member : Member → Rest → Tree
  each_member (plain a) r = each (bare a) r
  each_member (keyword x a) r = each (bare a) r
  each_member (entry k v) r = each_entry (bare k) (bare v) r

  -- a member before others, where it is an item or a positional argument
  pub with_plain : Member → Trees → Trees
  with_plain (plain a) ts = more_trees (bare a) ts
  with_plain _ ts = ts

  -- the same where it has a name
  pub with_keyword : Member → Keywords → Keywords
  with_keyword (keyword x a) ks = more_keywords x (bare a) ks
  with_keyword _ ks = ks

  -- the same where it is an entry of a dict
  pub with_entry : Member → Entries → Entries
  with_entry (entry k v) es = more_entries (bare k) (bare v) es
  with_entry _ es = es

  -- the items of a display, or the positional arguments of a call
  pub plain_of : Members → Trees
  plain_of no_members = no_trees
  plain_of (last_member m) = with_plain m no_trees
  plain_of (next_member m ms) = with_plain m (plain_of ms)

  -- the arguments of a call that have names
  pub keywords_of : Members → Keywords
  keywords_of no_members = no_keywords
  keywords_of (last_member m) = with_keyword m no_keywords
  keywords_of (next_member m ms) = with_keyword m (keywords_of ms)

  -- the entries of a dict
  pub entries_of : Members → Entries
  entries_of no_members = no_entries
  entries_of (last_member m) = with_entry m no_entries
  entries_of (next_member m ms) = with_entry m (entries_of ms)

  -- the clauses of a comprehension
  pub rest_of : Clauses → Rest
  rest_of no_clauses = done
  rest_of (for_clause x xs a cs) = for_each x xs (bare a) (rest_of cs)
  rest_of (if_clause a cs) = only_if (bare a) (rest_of cs)

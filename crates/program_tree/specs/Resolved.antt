-- The tree of a file with what its names stand for in their place: what the meaning of a file is
-- said of.
--
-- A function's names have slots, by the order of their first bindings; a comprehension's have the
-- slots behind those in use around it. A name of the top level has its number, by the order of the
-- bindings there; and functions have numbers, by the order of their `def`s, where 0 is the top
-- level.
use Rattle.std.specs.Prelude.{ℕ, suc, max, List, [], ◌∷◌, map, length, position, bytes_eq, Option}
use Rattle.std.specs.Prelude.{None, Some, option_map, unwrap_or}
pub use Rattle.program_tree.specs.declared.program.Loaded.{Loaded}
pub use Rattle.program_tree.specs.declared.program.OwnSlots.{OwnSlots}
use Rattle.grammar.specs.Tree.{Operator, Sign}
use Rattle.grammar.specs.Bare as bare
use Rattle.grammar.specs.BareLines.{Param, required, optional, Form, loads, defines, if_head}
use Rattle.grammar.specs.BareLines.{elif_head, else_head, for_head, assigns, assigns_at, increases}
use Rattle.grammar.specs.BareLines.{increases_at, evaluates, passes, breaks, continues, returns}
use Rattle.grammar.specs.BareLines.{Lines, no_lines, a_line}
use Rattle.program_tree.specs.Names.{Name, param_name, lines_bind, loads_bind, once, Binding, Scope}
use Rattle.program_tree.specs.Names.{width, slot, stands_for, file_scope, scope_of, inside_of}

mutual
  -- an expression (Starlark specification, "Expressions")
  pub data Term : Type 0 where
    named : Binding → Term
    numeral : ℕ → Term
    quoted : List ℕ → Term
    tuple listing : Terms → Term
    dict : Pairs → Term
    -- `A if TEST else B`, in the order of the text
    choice : Term → Term → Term → Term
    operates : Operator → Term → Term → Term
    turned : Sign → Term → Term
    selects : Term → Name → Term
    subscript : Term → Term → Term
    invokes : Term → Terms → Keywords → Term
    -- a comprehension, with the slots that its names have for their own. They are made unset when
    -- its first operand has its value, before its first turn: what stands in that operand may have
    -- used the same slots
    each : OwnSlots → Term → Rounds → Term
    each_pair : OwnSlots → Term → Term → Rounds → Term

  -- expressions one after the other: the items of a tuple or a list, positional arguments, or
  -- defaults
  pub data Terms : Type 0 where
    no_terms : Terms
    more_terms : Term → Terms → Terms

  -- the entries of a dict, each with its key and its value
  pub data Pairs : Type 0 where
    no_pairs : Pairs
    more_pairs : Term → Term → Pairs → Pairs

  -- the arguments of a call that have names (Starlark specification, "Function and method calls")
  pub data Keywords : Type 0 where
    no_keywords : Keywords
    more_keywords : Name → Term → Keywords → Keywords

  -- the clauses of a comprehension; a `for` has the slots of its names
  pub data Rounds : Type 0 where
    done : Rounds
    for_each : List Binding → Term → Rounds → Rounds
    only_if : Term → Rounds → Rounds

mutual
  -- a statement (Starlark specification, "Statements"). One name is assigned to, or several, into
  -- which a sequence is unpacked. A condition has its branches, and the statements of its `else`
  pub data Statement : Type 0 where
    load : List ℕ → List Loaded → Statement
    assign : List Binding → Term → Statement
    assign_item : Term → Term → Term → Statement
    add_to : Binding → Term → Statement
    add_to_item : Term → Term → Term → Statement
    evaluate : Term → Statement
    pass break_loop continue_loop : Statement
    give_back : Option Term → Statement
    branch : Branches → Steps → Statement
    loop : List Binding → Term → Steps → Statement
    -- the number of a function and that of the name that it binds, the names of its parameters, the
    -- defaults of the last of them, how many slots it has, those of comprehensions too, and its
    -- statements
    define : ℕ → ℕ → List Name → Terms → ℕ → Steps → Statement

  -- the branches of a condition, that of its `if` and those of its `elif`s: each with the first
  -- line of its logical line, its test, and the statements that run where it is the first that
  -- holds
  pub data Branches : Type 0 where
    no_branches : Branches
    a_branch : ℕ → Term → Steps → Branches → Branches

  -- statements one after the other, each with the first line of its logical line
  pub data Steps : Type 0 where
    no_steps : Steps
    step : ℕ → Statement → Steps → Steps

-- a file: the names that its top level binds, by number; how many of these are loaded, which have
-- the first numbers; how many slots the top level has for its comprehensions; and its statements
pub record Program : Type 0 where
  pub globals : List Name
  pub loaded : ℕ
  pub slots : ℕ
  pub steps : Steps

-- how many slots the comprehensions in an expression take: the number behind that of the last one
abbrev mutual
  pub term_slots : Term → ℕ
  term_slots (named b) = 0
  term_slots (numeral n) = 0
  term_slots (quoted t) = 0
  term_slots (tuple ts) = terms_slots ts
  term_slots (listing ts) = terms_slots ts
  term_slots (dict ps) = pairs_slots ps
  term_slots (choice a c b) = max (term_slots a) (max (term_slots c) (term_slots b))
  term_slots (operates o a b) = max (term_slots a) (term_slots b)
  term_slots (turned o a) = term_slots a
  term_slots (selects f x) = term_slots f
  term_slots (subscript f a) = max (term_slots f) (term_slots a)
  term_slots (invokes f ts ks) = max (term_slots f) (max (terms_slots ts) (keywords_slots ks))
  term_slots (each own a r) = max own.end (max (term_slots a) (rounds_slots r))
  term_slots (each_pair own k v r) =
      max own.end (max (max (term_slots k) (term_slots v)) (rounds_slots r))

  pub terms_slots : Terms → ℕ
  terms_slots no_terms = 0
  terms_slots (more_terms a ts) = max (term_slots a) (terms_slots ts)

  pub pairs_slots : Pairs → ℕ
  pairs_slots no_pairs = 0
  pairs_slots (more_pairs k v ps) = max (max (term_slots k) (term_slots v)) (pairs_slots ps)

  pub keywords_slots : Keywords → ℕ
  keywords_slots no_keywords = 0
  keywords_slots (more_keywords x a ks) = max (term_slots a) (keywords_slots ks)

  pub rounds_slots : Rounds → ℕ
  rounds_slots done = 0
  rounds_slots (for_each bs a r) = max (term_slots a) (rounds_slots r)
  rounds_slots (only_if a r) = max (term_slots a) (rounds_slots r)

-- the same of statements. A function has slots of its own; its defaults are evaluated outside
abbrev mutual
  pub statement_slots : Statement → ℕ
  statement_slots (load p is) = 0
  statement_slots (assign bs a) = term_slots a
  statement_slots (assign_item f a b) = max (term_slots f) (max (term_slots a) (term_slots b))
  statement_slots (add_to x a) = term_slots a
  statement_slots (add_to_item f a b) = max (term_slots f) (max (term_slots a) (term_slots b))
  statement_slots (evaluate a) = term_slots a
  statement_slots pass = 0
  statement_slots break_loop = 0
  statement_slots continue_loop = 0
  statement_slots (give_back None) = 0
  statement_slots (give_back (Some a)) = term_slots a
  statement_slots (branch bs other) = max (branches_slots bs) (steps_slots other)
  statement_slots (loop bs a inner) = max (term_slots a) (steps_slots inner)
  statement_slots (define k x ps ds n inner) = terms_slots ds

  pub branches_slots : Branches → ℕ
  branches_slots no_branches = 0
  branches_slots (a_branch n a inner bs) =
      max (max (term_slots a) (steps_slots inner)) (branches_slots bs)

  pub steps_slots : Steps → ℕ
  steps_slots no_steps = 0
  steps_slots (step n st ss) = max (statement_slots st) (steps_slots ss)

-- what a name stands for; in a file without fault each stands for something
abbrev pub binding_of : Scope → Name → Binding
binding_of s x = unwrap_or (stands_for s x) (slot 0)

-- the number of a name that the top level binds
abbrev pub global_of : Scope → Name → ℕ
global_of s x = unwrap_or (position (bytes_eq x) s.globals) 0

-- the slots of a comprehension's own names
abbrev pub own_slots : Scope → bare.Rest → OwnSlots
own_slots s r = record { first = width s.levels; end = width (inside_of s r).levels }

abbrev mutual
  -- an expression with what its names stand for, in the scope in which it stands
  pub term : Scope → bare.Tree → Term
  term s (bare.named x) = named (binding_of s x)
  term s (bare.numeral n) = numeral n
  term s (bare.quoted t) = quoted t
  term s (bare.tuple ts) = tuple (terms s ts)
  term s (bare.listing ts) = listing (terms s ts)
  term s (bare.dict es) = dict (pairs s es)
  term s (bare.choice a c b) = choice (term s a) (term s c) (term s b)
  term s (bare.operates o a b) = operates o (term s a) (term s b)
  term s (bare.turned o a) = turned o (term s a)
  term s (bare.selects f x) = selects (term s f) x
  term s (bare.subscript f a) = subscript (term s f) (term s a)
  term s (bare.invokes f ts ks) = invokes (term s f) (terms s ts) (keywords s ks)
  term s (bare.each a r) =
      each (own_slots s r) (term (inside_of s r) a) (rounds s (inside_of s r) r)
  term s (bare.each_entry k v r) =
      each_pair (own_slots s r) (term (inside_of s r) k) (term (inside_of s r) v)
      (rounds s (inside_of s r) r)

  -- several of them, the entries of a dict, and arguments with names
  pub terms : Scope → bare.Trees → Terms
  terms s bare.no_trees = no_terms
  terms s (bare.more_trees a ts) = more_terms (term s a) (terms s ts)

  pub pairs : Scope → bare.Entries → Pairs
  pairs s bare.no_entries = no_pairs
  pairs s (bare.more_entries k v es) = more_pairs (term s k) (term s v) (pairs s es)

  pub keywords : Scope → bare.Keywords → Keywords
  keywords s bare.no_keywords = no_keywords
  keywords s (bare.more_keywords x a ks) = more_keywords x (term s a) (keywords s ks)

  -- the operand of the first clause in one scope, all else in the other
  pub rounds : Scope → Scope → bare.Rest → Rounds
  rounds s inner bare.done = done
  rounds s inner (bare.for_each x xs a r) =
      for_each (map (binding_of inner) (x ∷ xs)) (term s a) (rounds inner inner r)
  rounds s inner (bare.only_if a r) = only_if (term s a) (rounds inner inner r)

-- the defaults of parameters, which are those of the last ones
abbrev pub with_default : Scope → Param → Terms → Terms
with_default s (required x) ts = ts
with_default s (optional x a) ts = more_terms (term s a) ts

-- the defaults that a function has, in the order of its parameters
abbrev pub defaults : Scope → List Param → Terms
defaults s [] = no_terms
defaults s (p ∷ ps) = with_default s p (defaults s ps)

-- a line without its block: a whole statement, or the head of one
pub data Head : Type 0 where
  simple : Statement → Head
  tests tests_again : Term → Head
  otherwise : Head
  repeats : List Binding → Term → Head
  makes : ℕ → List Name → Terms → Head

-- a line with what its names stand for, where it stands in this scope
abbrev pub head : Scope → Form → Head
head s (loads p items) =
    simple (load p (map (λ i. record { asked = i.asked; binds = global_of s i.binds }) items))
head s (defines x ps) = makes (global_of s x) (map param_name ps) (defaults s ps)
head s (if_head a) = tests (term s a)
head s (elif_head a) = tests_again (term s a)
head s else_head = otherwise
head s (for_head x xs a) = repeats (map (binding_of s) (x ∷ xs)) (term s a)
head s (assigns x xs a) = simple (assign (map (binding_of s) (x ∷ xs)) (term s a))
head s (assigns_at f a b) = simple (assign_item (term s f) (term s a) (term s b))
head s (increases x a) = simple (add_to (binding_of s x) (term s a))
head s (increases_at f a b) = simple (add_to_item (term s f) (term s a) (term s b))
head s (evaluates a) = simple (evaluate (term s a))
head s passes = simple pass
head s breaks = simple break_loop
head s continues = simple continue_loop
head s (returns a) = simple (give_back (option_map (term s) a))

-- what lines are to the line before them: the branches and the statements of the `else` that they
-- have for an `if` there, and their own statements
pub record Made : Type 0 where
  pub branches : Branches
  pub other : Steps
  pub steps : Steps

-- statements that don't continue an `if` before them: no `elif` and no `else` comes first
abbrev pub begun : Steps → Made
begun ss = record { branches = no_branches; other = no_steps; steps = ss }

-- a line before others: its number, how many slots the names in its block have, and the statements
-- of that. A function has slots for its names and for the comprehensions in it; it gets its number
-- later
abbrev pub with_line : Head → ℕ → ℕ → Steps → Made → Made
with_line (simple st) n slots inner m = begun (step n st m.steps)
with_line (tests a) n slots inner m =
    begun (step n (branch (a_branch n a inner m.branches) m.other) m.steps)
with_line (tests_again a) n slots inner m =
    record { branches = a_branch n a inner m.branches; other = m.other; steps = m.steps }
with_line otherwise n slots inner m =
    record { branches = no_branches; other = inner; steps = m.steps }
with_line (repeats bs a) n slots inner m = begun (step n (loop bs a inner) m.steps)
with_line (makes x ps ds) n slots inner m =
    begun (step n (define 0 x ps ds (max slots (steps_slots inner)) inner) m.steps)

-- lines with what their names stand for, as the line before them takes them up
abbrev pub made : Scope → Lines → Made
made s no_lines = begun no_steps
made s (a_line n f inner ls) =
    with_line (head s f) n (width (scope_of s f inner).levels)
    (made (scope_of s f inner) inner).steps (made s ls)

-- the statements of lines
abbrev pub steps_of : Scope → Lines → Steps
steps_of s ls = (made s ls).steps

-- functions of the top level have their numbers from k on, in the order of the text
abbrev pub with_number : ℕ → Statement → Statement
with_number k (define j x ps ds n inner) = define k x ps ds n inner
with_number k st = st

-- the number that the next function has
abbrev pub next_number : ℕ → Statement → ℕ
next_number k (define j x ps ds n inner) = suc k
next_number k st = k

-- statements of the top level with the numbers of their functions, the first of which has number k
abbrev pub numbered : ℕ → Steps → Steps
numbered k no_steps = no_steps
numbered k (step n st ss) = step n (with_number k st) (numbered (next_number k st) ss)

-- a file of these statements, of which the first function has number 1
abbrev pub program : List Name → ℕ → Steps → Program
program globals loaded ss =
    record { globals = globals; loaded = loaded; slots = steps_slots ss; steps = numbered 1 ss }

-- a file with what its names stand for
abbrev pub resolved : Lines → Program
resolved ls = program (once (lines_bind ls)) (length (loads_bind ls)) (steps_of (file_scope ls) ls)

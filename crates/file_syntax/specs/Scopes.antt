-- The rules of scopes, and the first line that breaks one.
--
-- That a file is refused before it runs where it breaks one, and the line at which it is, are this
-- project's own choice; the rules are the Starlark specification's ("Name binding and variables",
-- "Function definitions", "Function and method calls"), but that no predeclared name is bound again
-- and that nothing is added to a name of the top level.
use Rattle.std.specs.Prelude.{ℕ, Bool, true, false, not, ◌&&◌, List, [], ◌∷◌, ◌++◌, map, Option}
use Rattle.std.specs.Prelude.{Some, None, is_some, is_none}
use Rattle.std.specs.List.{list_all}
use Rattle.grammar.specs.Bare.{Tree, named, numeral, quoted, tuple, listing, dict, choice, operates}
use Rattle.grammar.specs.Bare.{turned, selects, subscript, invokes, each, each_entry, Trees}
use Rattle.grammar.specs.Bare.{no_trees, more_trees, Entries, no_entries, more_entries, Keywords}
use Rattle.grammar.specs.Bare.{no_keywords, more_keywords, Rest, done, for_each, only_if}
use Rattle.grammar.specs.BareLines.{Param, required, optional, Form, defines, if_head, elif_head}
use Rattle.grammar.specs.BareLines.{for_head, assigns, assigns_at, increases, increases_at}
use Rattle.grammar.specs.BareLines.{evaluates, returns, Lines, no_lines, a_line}
use Rattle.program_tree.specs.Names.{Name, predeclared, or_else, distinct, apart, param_name}
use Rattle.program_tree.specs.Names.{form_binds, clause_names, Scope, stands_for, file_scope}
use Rattle.program_tree.specs.Names.{scope_of, inside_of}

-- a name that is used stands for something
abbrev pub is_bound : Scope → Name → Bool
is_bound s x = is_some (stands_for s x)

-- no predeclared name is bound, wherever that is
abbrev pub none_predeclared : List Name → Bool
none_predeclared xs = list_all (λ x. is_none (predeclared x)) xs

-- the names of the arguments of a call that have names
abbrev pub keyword_names : Keywords → List Name
keyword_names no_keywords = []
keyword_names (more_keywords x a ks) = x ∷ keyword_names ks

-- an expression breaks no rule: each name that is used is bound, no keyword is repeated in one
-- call, and no comprehension binds a predeclared name. The first operand of a comprehension stands
-- outside of its scope, all else inside (Starlark specification, "Comprehensions")
abbrev mutual
  pub scoped : Scope → Tree → Bool
  scoped s (named x) = is_bound s x
  scoped s (numeral n) = true
  scoped s (quoted t) = true
  scoped s (tuple ts) = trees_scoped s ts
  scoped s (listing ts) = trees_scoped s ts
  scoped s (dict es) = entries_scoped s es
  scoped s (choice a c b) = scoped s a && (scoped s c && scoped s b)
  scoped s (operates o a b) = scoped s a && scoped s b
  scoped s (turned o a) = scoped s a
  scoped s (selects f x) = scoped s f
  scoped s (subscript f a) = scoped s f && scoped s a
  scoped s (invokes f ts ks) =
      scoped s f && (trees_scoped s ts && (distinct (keyword_names ks) && keywords_scoped s ks))
  scoped s (each a r) = none_predeclared (clause_names r)
      && (scoped (inside_of s r) a && rest_scoped s (inside_of s r) r)
  scoped s (each_entry k v r) =
      none_predeclared (clause_names r)
      && (scoped (inside_of s r) k
      && (scoped (inside_of s r) v && rest_scoped s (inside_of s r) r))

  pub trees_scoped : Scope → Trees → Bool
  trees_scoped s no_trees = true
  trees_scoped s (more_trees a ts) = scoped s a && trees_scoped s ts

  pub entries_scoped : Scope → Entries → Bool
  entries_scoped s no_entries = true
  entries_scoped s (more_entries k v es) = scoped s k && (scoped s v && entries_scoped s es)

  pub keywords_scoped : Scope → Keywords → Bool
  keywords_scoped s no_keywords = true
  keywords_scoped s (more_keywords x a ks) = scoped s a && keywords_scoped s ks

  -- the first clause in one scope, those behind it in the other
  pub rest_scoped : Scope → Scope → Rest → Bool
  rest_scoped s inner done = true
  rest_scoped s inner (for_each x xs a r) = scoped s a && rest_scoped inner inner r
  rest_scoped s inner (only_if a r) = scoped s a && rest_scoped inner inner r

-- a default is an expression of the top level, since it is evaluated where the `def` stands
abbrev pub param_scoped : Scope → Param → Bool
param_scoped s (required x) = true
param_scoped s (optional x a) = scoped s a

-- whether a parameter has a default
abbrev pub has_default : Param → Bool
has_default (required x) = false
has_default (optional x a) = true

-- behind a parameter with a default all others have one
abbrev pub defaults_last : List Param → Bool
defaults_last [] = true
defaults_last (p ∷ ps) = elim (has_default p)
    [ true ↦ list_all has_default ps | false ↦ defaults_last ps ]

-- the head of a function: its parameters are distinct, those with defaults come last, none is
-- predeclared, and no default breaks a rule
abbrev pub params_scoped : Scope → List Param → Bool
params_scoped s ps =
    distinct (map param_name ps)
    && (defaults_last ps && (none_predeclared (map param_name ps) && list_all (param_scoped s) ps))

-- a line breaks no rule, but for its block and for the rules of the top level. What is added to is
-- used too; a name that is added to is bound by that very line
abbrev pub form_scoped : Scope → Form → Bool
form_scoped s (defines x ps) = params_scoped s ps
form_scoped s (if_head a) = scoped s a
form_scoped s (elif_head a) = scoped s a
form_scoped s (for_head x xs a) = scoped s a
form_scoped s (assigns x xs a) = scoped s a
form_scoped s (assigns_at f a b) = scoped s f && (scoped s a && scoped s b)
form_scoped s (increases x a) = scoped s a
form_scoped s (increases_at f a b) = scoped s f && (scoped s a && scoped s b)
form_scoped s (evaluates a) = scoped s a
form_scoped s (returns (Some a)) = scoped s a
form_scoped s f = true

-- a line in a function
abbrev pub line_scoped : Scope → Form → Bool
line_scoped s f = none_predeclared (form_binds f) && form_scoped s f

-- whether a line adds to a name, as `x += e` does
abbrev pub adds_to_name : Form → Bool
adds_to_name (increases x a) = true
adds_to_name f = false

-- a line of the top level, which has bound these names before: it binds none a second time, and
-- adds to none
abbrev pub top_line_scoped : Scope → List Name → Form → Bool
top_line_scoped s before f = distinct (form_binds f)
    && (apart (form_binds f) before && (not (adds_to_name f) && line_scoped s f))

-- the line itself, where it breaks a rule
abbrev pub unless : ℕ → Bool → Option ℕ
unless n true = None
unless n false = Some n

-- the first line of a function that breaks a rule
abbrev pub lines_fault : Scope → Lines → Option ℕ
lines_fault s no_lines = None
lines_fault s (a_line n f inner ls) = or_else (unless n (line_scoped s f))
    (or_else (lines_fault (scope_of s f inner) inner) (lines_fault s ls))

-- the same of the top level, which has bound these names before
abbrev pub top_fault : Scope → List Name → Lines → Option ℕ
top_fault s before no_lines = None
top_fault s before (a_line n f inner ls) =
    or_else (unless n (top_line_scoped s before f))
    (or_else (lines_fault (scope_of s f inner) inner) (top_fault s (form_binds f ++ before) ls))

-- the first line of a file, in the order of the text, that breaks a rule of scopes
abbrev pub scope_fault : Lines → Option ℕ
scope_fault ls = top_fault (file_scope ls) [] ls

-- How deep the tree of an expression is, without what only its writing has. (docs/PROFILE.md,
-- "Depth of an expression"; this project's own.)
use Rattle.std.specs.Prelude.{ℕ, suc, max, List, [], ◌∷◌, Some}
use Rattle.grammar.specs.Bare.{Tree, named, numeral, quoted, tuple, listing, dict, choice, operates}
use Rattle.grammar.specs.Bare.{turned, selects, subscript, invokes, each, each_entry, Trees}
use Rattle.grammar.specs.Bare.{no_trees, more_trees, Entries, no_entries, more_entries, Keywords}
use Rattle.grammar.specs.Bare.{no_keywords, more_keywords, Rest, done, for_each, only_if}
use Rattle.grammar.specs.BareLines.{Param, required, optional, Form, defines, if_head, elif_head}
use Rattle.grammar.specs.BareLines.{for_head, assigns, assigns_at, increases, increases_at}
use Rattle.grammar.specs.BareLines.{evaluates, returns, Lines, no_lines, a_line}

-- a name or literal is 1 deep, each other tree one more than the deepest of its parts
abbrev mutual
  pub tree_depth : Tree → ℕ
  tree_depth (named x) = 1
  tree_depth (numeral n) = 1
  tree_depth (quoted s) = 1
  tree_depth (tuple ts) = suc (trees_depth ts)
  tree_depth (listing ts) = suc (trees_depth ts)
  tree_depth (dict es) = suc (entries_depth es)
  tree_depth (choice a c b) = suc (max (tree_depth a) (max (tree_depth c) (tree_depth b)))
  tree_depth (operates o a b) = suc (max (tree_depth a) (tree_depth b))
  tree_depth (turned o a) = suc (tree_depth a)
  tree_depth (selects f x) = suc (tree_depth f)
  tree_depth (subscript f a) = suc (max (tree_depth f) (tree_depth a))
  tree_depth (invokes f ts ks) = suc (max (tree_depth f) (max (trees_depth ts) (keywords_depth ks)))
  tree_depth (each a r) = suc (max (tree_depth a) (rest_depth r))
  tree_depth (each_entry k v r) = suc (max (max (tree_depth k) (tree_depth v)) (rest_depth r))

  pub trees_depth : Trees → ℕ
  trees_depth no_trees = 0
  trees_depth (more_trees a ts) = max (tree_depth a) (trees_depth ts)

  pub entries_depth : Entries → ℕ
  entries_depth no_entries = 0
  entries_depth (more_entries k v es) = max (max (tree_depth k) (tree_depth v)) (entries_depth es)

  pub keywords_depth : Keywords → ℕ
  keywords_depth no_keywords = 0
  keywords_depth (more_keywords x a ks) = max (tree_depth a) (keywords_depth ks)

  pub rest_depth : Rest → ℕ
  rest_depth done = 0
  rest_depth (for_each x xs a r) = max (tree_depth a) (rest_depth r)
  rest_depth (only_if a r) = max (tree_depth a) (rest_depth r)

-- the depth of a parameter's default; 0 where it has none
abbrev pub param_depth : Param → ℕ
param_depth (required x) = 0
param_depth (optional x a) = tree_depth a

-- the depth of the deepest default of parameters
abbrev pub params_depth : List Param → ℕ
params_depth [] = 0
params_depth (p ∷ ps) = max (param_depth p) (params_depth ps)

-- the depth of the deepest expression of a line; an index that is assigned to is one
abbrev pub form_depth : Form → ℕ
form_depth (defines x ps) = params_depth ps
form_depth (if_head a) = tree_depth a
form_depth (elif_head a) = tree_depth a
form_depth (for_head x xs a) = tree_depth a
form_depth (assigns x xs a) = tree_depth a
form_depth (assigns_at f a b) = max (suc (max (tree_depth f) (tree_depth a))) (tree_depth b)
form_depth (increases x a) = tree_depth a
form_depth (increases_at f a b) = max (suc (max (tree_depth f) (tree_depth a))) (tree_depth b)
form_depth (evaluates a) = tree_depth a
form_depth (returns (Some a)) = tree_depth a
form_depth f = 0

-- the same of lines and their blocks
abbrev pub lines_depth : Lines → ℕ
lines_depth no_lines = 0
lines_depth (a_line n f inner ls) = max (form_depth f) (max (lines_depth inner) (lines_depth ls))

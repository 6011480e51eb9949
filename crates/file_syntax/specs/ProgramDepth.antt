-- How deep the parts of a file are inside of one another: what a program that walks it needs of its
-- stack. (docs/PROFILE.md, "Depth of an expression" and "Columns and blocks"; this project's own.)
use Rattle.std.specs.Prelude.{ℕ, suc, ◌≤◌, max, None, Some}
use Rattle.program_tree.specs.Resolved.{Term, named, numeral, quoted, tuple, listing, dict, choice}
use Rattle.program_tree.specs.Resolved.{operates, turned, selects, subscript, invokes, each}
use Rattle.program_tree.specs.Resolved.{each_pair, Terms, no_terms, more_terms, Pairs, no_pairs}
use Rattle.program_tree.specs.Resolved.{more_pairs, Keywords, no_keywords, more_keywords, Rounds}
use Rattle.program_tree.specs.Resolved.{done, for_each, only_if, Statement, load, assign}
use Rattle.program_tree.specs.Resolved.{assign_item, add_to, add_to_item, evaluate, pass}
use Rattle.program_tree.specs.Resolved.{break_loop, continue_loop, give_back, branch, loop, define}
use Rattle.program_tree.specs.Resolved.{Branches, no_branches, a_branch, Steps, no_steps, step}
use Rattle.program_tree.specs.Resolved.{Program}

-- a name or literal is 1 deep, each other expression one more than the deepest of its parts
abbrev mutual
  pub term_depth : Term → ℕ
  term_depth (named b) = 1
  term_depth (numeral n) = 1
  term_depth (quoted s) = 1
  term_depth (tuple ts) = suc (terms_depth ts)
  term_depth (listing ts) = suc (terms_depth ts)
  term_depth (dict ps) = suc (pairs_depth ps)
  term_depth (choice a c b) = suc (max (term_depth a) (max (term_depth c) (term_depth b)))
  term_depth (operates o a b) = suc (max (term_depth a) (term_depth b))
  term_depth (turned o a) = suc (term_depth a)
  term_depth (selects f x) = suc (term_depth f)
  term_depth (subscript f a) = suc (max (term_depth f) (term_depth a))
  term_depth (invokes f ts ks) = suc (max (term_depth f) (max (terms_depth ts) (keywords_depth ks)))
  term_depth (each own a r) = suc (max (term_depth a) (rounds_depth r))
  term_depth (each_pair own k v r) = suc (max (max (term_depth k) (term_depth v)) (rounds_depth r))

  pub terms_depth : Terms → ℕ
  terms_depth no_terms = 0
  terms_depth (more_terms a ts) = max (term_depth a) (terms_depth ts)

  pub pairs_depth : Pairs → ℕ
  pairs_depth no_pairs = 0
  pairs_depth (more_pairs k v ps) = max (max (term_depth k) (term_depth v)) (pairs_depth ps)

  pub keywords_depth : Keywords → ℕ
  keywords_depth no_keywords = 0
  keywords_depth (more_keywords x a ks) = max (term_depth a) (keywords_depth ks)

  pub rounds_depth : Rounds → ℕ
  rounds_depth done = 0
  rounds_depth (for_each bs a r) = max (term_depth a) (rounds_depth r)
  rounds_depth (only_if a r) = max (term_depth a) (rounds_depth r)

-- the depth of the deepest expression of statements, and of those in their blocks
abbrev mutual
  pub statement_depth : Statement → ℕ
  statement_depth (load p is) = 0
  statement_depth (assign bs a) = term_depth a
  statement_depth (assign_item f a b) = max (term_depth f) (max (term_depth a) (term_depth b))
  statement_depth (add_to x a) = term_depth a
  statement_depth (add_to_item f a b) = max (term_depth f) (max (term_depth a) (term_depth b))
  statement_depth (evaluate a) = term_depth a
  statement_depth pass = 0
  statement_depth break_loop = 0
  statement_depth continue_loop = 0
  statement_depth (give_back None) = 0
  statement_depth (give_back (Some a)) = term_depth a
  statement_depth (branch bs other) = max (branches_depth bs) (steps_depth other)
  statement_depth (loop bs a inner) = max (term_depth a) (steps_depth inner)
  statement_depth (define k x ps ds n inner) = max (terms_depth ds) (steps_depth inner)

  pub branches_depth : Branches → ℕ
  branches_depth no_branches = 0
  branches_depth (a_branch n a inner bs) =
      max (max (term_depth a) (steps_depth inner)) (branches_depth bs)

  pub steps_depth : Steps → ℕ
  steps_depth no_steps = 0
  steps_depth (step n st ss) = max (statement_depth st) (steps_depth ss)

-- how many blocks are inside of one another, the statements themselves being one
abbrev mutual
  pub statement_nesting : Statement → ℕ
  statement_nesting (branch bs other) = max (branches_nesting bs) (steps_nesting other)
  statement_nesting (loop bs a inner) = steps_nesting inner
  statement_nesting (define k x ps ds n inner) = steps_nesting inner
  statement_nesting st = 0

  pub branches_nesting : Branches → ℕ
  branches_nesting no_branches = 0
  branches_nesting (a_branch n a inner bs) = max (steps_nesting inner) (branches_nesting bs)

  pub steps_nesting : Steps → ℕ
  steps_nesting no_steps = 0
  steps_nesting (step n st ss) = max (suc (statement_nesting st)) (steps_nesting ss)

-- no expression is more than 200 deep; and of blocks no more than 34 are inside of one another: the
-- top level, 32 blocks, and a statement on the line of its head
pub record IsShallow (p : Program) : Type 0 where
  pub expressions : steps_depth p.steps ≤ 200
  pub blocks : steps_nesting p.steps ≤ 34

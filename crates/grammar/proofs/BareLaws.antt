-- The depth of an expression is that of its tree without brackets and commas, so the trees of a file are shallow.
use Rattle.std.proofs.Common.{◌≡◌, ℕ, suc, ◌≤◌, max, Bool, false, [], refl, ap, arith}
use Rattle.lexer.specs.declared.layout.Bracket.TheVariants.{Round, Square, Curly}
use Rattle.grammar.specs.Tree.{Expr, identifier, integer, text, display, comprehension, conditional, operation, signed, field, index, call, plain, keyword, entry, Members, no_members, last_member, next_member, Clauses, no_clauses, for_clause, if_clause}
use Rattle.grammar.specs.Levels.{items, entries, arguments, IsTree, AreMembers, AreClauses}
use Rattle.grammar.specs.Statements.{Listed, alone, followed, Simple, assigns, assigns_at, increases, increases_at, evaluates, passes, breaks, continues, returns, returns_list, Body, block, inline, Param, required, optional, Commas, none_more, last_one, and_more, Form, loads, simple, defines, if_head, elif_head, else_head, for_head, AreListed, IsSimple, IsBody, AreParams, IsForm}
use Rattle.grammar.specs.Depth.{depth, members_depth, clauses_depth, deepest, listed_depth, simple_depth, body_depth, params_depth, form_depth}
use Rattle.grammar.specs.Places.{Place}
use Rattle.grammar.specs.Blocks.{Block, no_lines, plain_line, head_line, IsBlock}
use Rattle.grammar.specs.Bare.{Tree, invokes, each, bare}
use Rattle.grammar.specs.BareLines.{listed_tree, listed_trees, bare_simple, bare_param, without_commas, bare_form, body_lines, own_lines, bare_lines}
use Rattle.grammar.specs.BareDepth as bare_depth
use Rattle.grammar.specs.BareDepth.{tree_depth, trees_depth, keywords_depth, rest_depth, lines_depth}

-- the depth of the arguments of a call, and of the clauses of a comprehension
arguments_part : Tree → ℕ
arguments_part (invokes f ts ks) = max (trees_depth ts) (keywords_depth ks)
arguments_part t = 0

clauses_part : Tree → ℕ
clauses_part (each a r) = rest_depth r
clauses_part t = 0

mutual
  unfolding arguments_part clauses_part

  tree_same : (a : Expr) → IsTree a → depth a ≡ tree_depth (bare a)
  tree_same (identifier x) h = refl
  tree_same (integer n) h = refl
  tree_same (text s) h = refl
  tree_same (display Round no_members) h = refl
  tree_same (display Round (last_member (plain a))) h = tree_same a h.1
  tree_same (display Round (last_member (keyword x a))) h = let k = h.0 in absurd cc
  tree_same (display Round (last_member (entry k v))) h = let j = h.0 in absurd cc
  tree_same (display Round (next_member m ms)) h = items_same (next_member m ms) h
  tree_same (display Square ms) h = items_same ms h
  tree_same (display Curly ms) h = entries_same ms h
  tree_same (comprehension Round m cs) h = let k = h.0 in absurd cc
  tree_same (comprehension Square (plain a) cs) h = let k = tree_same a h.2 in let j = clauses_same cs h.4 in omega (arith, k, j)
  tree_same (comprehension Square (keyword x a) cs) h = let k = h.1 in absurd cc
  tree_same (comprehension Square (entry k v) cs) h = let j = h.1 in absurd cc
  tree_same (comprehension Curly (plain a) cs) h = let k = h.1 in absurd cc
  tree_same (comprehension Curly (keyword x a) cs) h = let k = h.1 in absurd cc
  tree_same (comprehension Curly (entry a b) cs) h =
      let k = tree_same a h.2.0 in let j = tree_same b h.2.1 in let i = clauses_same cs h.4 in omega (arith, k, j, i)
  tree_same (conditional a c b) h =
      let k = tree_same a h.1 in let j = tree_same c h.3 in let i = tree_same b h.4 in omega (arith, k, j, i)
  tree_same (operation o a b) h = let k = tree_same a h.1 in let j = tree_same b h.3 in omega (arith, k, j)
  tree_same (signed s a) h = ap suc (tree_same a h.1)
  tree_same (field f x) h = ap suc (tree_same f h.1)
  tree_same (index f a) h = let k = tree_same f h.1 in let j = tree_same a h.2 in omega (arith, k, j)
  tree_same (call f ms) h = let k = tree_same f h.1 in let j = arguments_same ms h.3 in omega (arith, k, j)

  items_same : (ms : Members) → AreMembers items ms → suc (members_depth ms) ≡ tree_depth (bare (display Square ms))
  items_same no_members h = refl
  items_same (last_member (plain a)) h = let k = tree_same a h.1 in omega (arith, k)
  items_same (last_member (keyword x a)) h = let k = h.0 in absurd cc
  items_same (last_member (entry a b)) h = let k = h.0 in absurd cc
  items_same (next_member (plain a) ms) h = let k = tree_same a h.1 in let j = items_same ms h.2 in omega (arith, k, j)
  items_same (next_member (keyword x a) ms) h = let k = h.0 in absurd cc
  items_same (next_member (entry a b) ms) h = let k = h.0 in absurd cc

  entries_same : (ms : Members) → AreMembers entries ms → suc (members_depth ms) ≡ tree_depth (bare (display Curly ms))
  entries_same no_members h = refl
  entries_same (last_member (plain a)) h = let k = h.0 in absurd cc
  entries_same (last_member (keyword x a)) h = let k = h.0 in absurd cc
  entries_same (last_member (entry a b)) h = let k = tree_same a h.1.0 in let j = tree_same b h.1.1 in omega (arith, k, j)
  entries_same (next_member (plain a) ms) h = let k = h.0 in absurd cc
  entries_same (next_member (keyword x a) ms) h = let k = h.0 in absurd cc
  entries_same (next_member (entry a b) ms) h =
      let k = tree_same a h.1.0 in let j = tree_same b h.1.1 in let i = entries_same ms h.2 in omega (arith, k, j, i)

  arguments_same : (ms : Members) → AreMembers arguments ms → members_depth ms ≡ arguments_part (bare (call (identifier []) ms))
  arguments_same no_members h = refl
  arguments_same (last_member (plain a)) h = let k = tree_same a h.1 in omega (arith, k)
  arguments_same (last_member (keyword x a)) h = let k = tree_same a h.1 in omega (arith, k)
  arguments_same (last_member (entry a b)) h = let k = h.0 in absurd cc
  arguments_same (next_member (plain a) ms) h = let k = tree_same a h.1 in let j = arguments_same ms h.2 in omega (arith, k, j)
  arguments_same (next_member (keyword x a) ms) h = let k = tree_same a h.1 in let j = arguments_same ms h.2 in omega (arith, k, j)
  arguments_same (next_member (entry a b) ms) h = let k = h.0 in absurd cc

  clauses_same : (cs : Clauses) → AreClauses cs → clauses_depth cs ≡ clauses_part (bare (comprehension Square (plain (integer 0)) cs))
  clauses_same no_clauses h = refl
  clauses_same (for_clause x xs a cs) h = let k = tree_same a h.1 in let j = clauses_same cs h.2 in omega (arith, k, j)
  clauses_same (if_clause a cs) h = let k = tree_same a h.1 in let j = clauses_same cs h.2 in omega (arith, k, j)

-- the depth of an expression is that of its tree
pub depth_is : (a : Expr) → IsTree a → depth a ≡ tree_depth (bare a)
depth_is = tree_same

several_same : (l : Listed) → AreListed l → deepest l ≡ trees_depth (listed_trees l)
several_same (alone a) h = let k = tree_same a h in omega (arith, k)
several_same (followed a l) h = let k = tree_same a h.0 in let j = several_same l h.1 in omega (arith, k, j)

listed_same : (l : Listed) → AreListed l → listed_depth l ≡ tree_depth (listed_tree l)
listed_same (alone a) h = tree_same a h
listed_same (followed a l) h = ap suc (several_same (followed a l) h)

simple_same : (s : Simple) → IsSimple s → simple_depth s ≡ bare_depth.form_depth (bare_simple s)
simple_same (assigns x xs l) h = listed_same l h
simple_same (assigns_at f a l) h = let i = tree_same f h.0.1 in let j = tree_same a h.0.2 in let k = listed_same l h.1 in omega (arith, i, j, k)
simple_same (increases x a) h = tree_same a h
simple_same (increases_at f a b) h = let i = tree_same f h.0.1 in let j = tree_same a h.0.2 in let k = tree_same b h.1 in omega (arith, i, j, k)
simple_same (evaluates a) h = tree_same a h
simple_same passes h = refl
simple_same breaks h = refl
simple_same continues h = refl
simple_same returns h = refl
simple_same (returns_list l) h = listed_same l h

body_same : (n : ℕ) (b : Body) → IsBody b → body_depth b ≡ lines_depth (body_lines n b)
body_same n block h = refl
body_same n (inline s) h = let k = simple_same s h in omega (arith, k)

params_same : (ps : Commas Param) → AreParams ps → params_depth ps ≡ bare_depth.params_depth (without_commas bare_param ps)
params_same none_more h = refl
params_same (last_one (required x)) h = refl
params_same (last_one (optional x a)) h = let k = tree_same a h in omega (arith, k)
params_same (and_more (required x) ps) h = let k = params_same ps h.1 in omega (arith, k)
params_same (and_more (optional x a) ps) h = let k = tree_same a h.0 in let j = params_same ps h.1 in omega (arith, k, j)

-- the depth of a line is that of what is left of it
form_same : (n : ℕ) (f : Form) → IsForm f → form_depth f ≡ max (bare_depth.form_depth (bare_form f)) (lines_depth (own_lines n f))
form_same n (loads s l) h = refl
form_same n (simple s) h = let k = simple_same s h in omega (arith, k)
form_same n (defines x ps b) h = let k = params_same ps h.0 in let j = body_same n b h.1 in omega (arith, k, j)
form_same n (if_head a b) h = let k = tree_same a h.0 in let j = body_same n b h.1 in omega (arith, k, j)
form_same n (elif_head a b) h = let k = tree_same a h.0 in let j = body_same n b h.1 in omega (arith, k, j)
form_same n (else_head b) h = let j = body_same n b h in omega (arith, j)
form_same n (for_head x xs a b) h = let k = tree_same a h.0 in let j = body_same n b h.1 in omega (arith, k, j)

-- no expression of a file is more than 200 deep
pub block_shallow : (p : Place) (after early : Bool) (c : ℕ) (b : Block) → IsBlock p after early c b → lines_depth (bare_lines b) ≤ 200
block_shallow p after early c no_lines h = omega arith
block_shallow p after early c (plain_line n f b) h =
    let k = form_same n f h.0.is_form in let j = h.0.not_deep in let i = block_shallow p _ _ c b h.2 in omega (arith, k, j, i)
block_shallow p after early c (head_line n f d inner b) h =
    let k = form_same n f h.0.is_form in
    let j = h.0.not_deep in
    let g = block_shallow _ false false d inner h.4 in
    let i = block_shallow p _ _ c b h.5 in
    omega (arith, k, j, g, i)

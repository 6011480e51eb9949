-- A file with what its names stand for is as deep as its lines.
use Rattle.std.proofs.Common.{◌≡◌, ℕ, suc, ◌≤◌, max, List, [], ◌∷◌, Some, None, refl, ap, arith}
use Rattle.grammar.specs.Bare as bare
use Rattle.grammar.specs.BareDepth.{tree_depth, trees_depth, entries_depth, keywords_depth, rest_depth, params_depth, form_depth, lines_depth}
use Rattle.grammar.specs.BareLines.{Param, required, optional, Form, loads, defines, if_head, elif_head, else_head, for_head, assigns, assigns_at, increases, increases_at, evaluates, passes, breaks, continues, returns, Lines, no_lines, a_line}
use Rattle.program_tree.specs.Names.{Scope, inside_of, scope_of, width}
use Rattle.program_tree.specs.Resolved.{term, terms, pairs, keywords, rounds, defaults, Head, simple, tests, tests_again, otherwise, repeats, makes, head, Made, with_line, made, Statement, load, assign, assign_item, add_to, add_to_item, evaluate, pass, break_loop, continue_loop, give_back, branch, loop, define, Steps, no_steps, step, with_number, next_number, numbered}
use Rattle.file_syntax.specs.ProgramDepth.{term_depth, terms_depth, pairs_depth, keywords_depth as named_depth, rounds_depth, statement_depth, branches_depth, steps_depth, statement_nesting, branches_nesting, steps_nesting}

mutual
  term_same : (s : Scope) (t : bare.Tree) → term_depth (term s t) ≡ tree_depth t
  term_same s (bare.named x) = refl
  term_same s (bare.numeral n) = refl
  term_same s (bare.quoted t) = refl
  term_same s (bare.tuple ts) = ap suc (terms_same s ts)
  term_same s (bare.listing ts) = ap suc (terms_same s ts)
  term_same s (bare.dict es) = ap suc (pairs_same s es)
  term_same s (bare.choice a c b) = let k = term_same s a in let j = term_same s c in let i = term_same s b in omega (arith, k, j, i)
  term_same s (bare.operates o a b) = let k = term_same s a in let j = term_same s b in omega (arith, k, j)
  term_same s (bare.turned o a) = ap suc (term_same s a)
  term_same s (bare.selects f x) = ap suc (term_same s f)
  term_same s (bare.subscript f a) = let k = term_same s f in let j = term_same s a in omega (arith, k, j)
  term_same s (bare.invokes f ts ks) = let k = term_same s f in let j = terms_same s ts in let i = keywords_same s ks in omega (arith, k, j, i)
  term_same s (bare.each a r) = let k = term_same (inside_of s r) a in let j = rounds_same s (inside_of s r) r in omega (arith, k, j)
  term_same s (bare.each_entry a b r) =
      let k = term_same (inside_of s r) a in let j = term_same (inside_of s r) b in let i = rounds_same s (inside_of s r) r in omega (arith, k, j, i)

  terms_same : (s : Scope) (ts : bare.Trees) → terms_depth (terms s ts) ≡ trees_depth ts
  terms_same s bare.no_trees = refl
  terms_same s (bare.more_trees a ts) = let k = term_same s a in let j = terms_same s ts in omega (arith, k, j)

  pairs_same : (s : Scope) (es : bare.Entries) → pairs_depth (pairs s es) ≡ entries_depth es
  pairs_same s bare.no_entries = refl
  pairs_same s (bare.more_entries a b es) = let k = term_same s a in let j = term_same s b in let i = pairs_same s es in omega (arith, k, j, i)

  keywords_same : (s : Scope) (ks : bare.Keywords) → named_depth (keywords s ks) ≡ keywords_depth ks
  keywords_same s bare.no_keywords = refl
  keywords_same s (bare.more_keywords x a ks) = let k = term_same s a in let j = keywords_same s ks in omega (arith, k, j)

  rounds_same : (s inner : Scope) (r : bare.Rest) → rounds_depth (rounds s inner r) ≡ rest_depth r
  rounds_same s inner bare.done = refl
  rounds_same s inner (bare.for_each x xs a r) = let k = term_same s a in let j = rounds_same inner inner r in omega (arith, k, j)
  rounds_same s inner (bare.only_if a r) = let k = term_same s a in let j = rounds_same inner inner r in omega (arith, k, j)

default_same : (s : Scope) (ps : List Param) → terms_depth (defaults s ps) ≡ params_depth ps
default_same s [] = refl
default_same s (required x ∷ ps) = let k = default_same s ps in omega (arith, k)
default_same s (optional x a ∷ ps) = let j = term_same s a in let k = default_same s ps in omega (arith, j, k)

-- the deepest expression of a line without its block
abbrev head_depth : Head → ℕ
head_depth (simple st) = statement_depth st
head_depth (tests a) = term_depth a
head_depth (tests_again a) = term_depth a
head_depth otherwise = 0
head_depth (repeats bs a) = term_depth a
head_depth (makes b ps ds) = terms_depth ds

head_within : (s : Scope) (f : Form) → head_depth (head s f) ≤ form_depth f
head_within s (loads p items) = omega (arith)
head_within s (defines x ps) = let k = default_same s ps in omega (arith, k)
head_within s (if_head a) = let k = term_same s a in omega (arith, k)
head_within s (elif_head a) = let k = term_same s a in omega (arith, k)
head_within s else_head = omega (arith)
head_within s (for_head x xs a) = let k = term_same s a in omega (arith, k)
head_within s (assigns x xs a) = let k = term_same s a in omega (arith, k)
head_within s (assigns_at f a b) = let k = term_same s f in let j = term_same s a in let i = term_same s b in omega (arith, k, j, i)
head_within s (increases x a) = let k = term_same s a in omega (arith, k)
head_within s (increases_at f a b) = let k = term_same s f in let j = term_same s a in let i = term_same s b in omega (arith, k, j, i)
head_within s (evaluates a) = let k = term_same s a in omega (arith, k)
head_within s passes = omega (arith)
head_within s breaks = omega (arith)
head_within s continues = omega (arith)
head_within s (returns None) = omega (arith)
head_within s (returns (Some a)) = let k = term_same s a in omega (arith, k)

abbrev made_depth : Made → ℕ
made_depth m = max (branches_depth m.branches) (max (steps_depth m.other) (steps_depth m.steps))

line_depth : (h : Head) (n k : ℕ) (inner : Steps) (m : Made) → made_depth (with_line h n k inner m) ≤ max (head_depth h) (max (steps_depth inner) (made_depth m))
line_depth (simple st) n k inner m = omega (arith)
line_depth (tests a) n k inner m = omega (arith)
line_depth (tests_again a) n k inner m = omega (arith)
line_depth otherwise n k inner m = omega (arith)
line_depth (repeats bs a) n k inner m = omega (arith)
line_depth (makes b ps ds) n k inner m = omega (arith)

-- no expression of the statements is deeper than that of a line
pub made_within : (s : Scope) (ls : Lines) → made_depth (made s ls) ≤ lines_depth ls
made_within s no_lines = omega (arith)
made_within s (a_line n f inner ls) =
    let t = scope_of s f inner in
    let l = line_depth (head s f) n (width t.levels) (made t inner).steps (made s ls) in
    let h = head_within s f in
    let i = made_within t inner in
    let b = made_within s ls in
    omega (arith, l, h, i, b)

-- how many blocks are inside of one another, the lines themselves being one
abbrev pub lines_nesting : Lines → ℕ
lines_nesting no_lines = 0
lines_nesting (a_line n f inner ls) = max (suc (lines_nesting inner)) (lines_nesting ls)

-- a line without its block has none in it
abbrev head_nesting : Head → ℕ
head_nesting (simple st) = statement_nesting st
head_nesting _ = 0

head_flat : (s : Scope) (f : Form) → head_nesting (head s f) ≡ 0
head_flat s (loads p items) = refl
head_flat s (defines x ps) = refl
head_flat s (if_head a) = refl
head_flat s (elif_head a) = refl
head_flat s else_head = refl
head_flat s (for_head x xs a) = refl
head_flat s (assigns x xs a) = refl
head_flat s (assigns_at f a b) = refl
head_flat s (increases x a) = refl
head_flat s (increases_at f a b) = refl
head_flat s (evaluates a) = refl
head_flat s passes = refl
head_flat s breaks = refl
head_flat s continues = refl
head_flat s (returns a) = refl

-- what is made of lines has no more blocks inside of one another than these
record IsNested (m : Made) (k : ℕ) : Type 0 where
  branches : suc (branches_nesting m.branches) ≤ max 1 k
  other : suc (steps_nesting m.other) ≤ max 1 k
  steps : steps_nesting m.steps ≤ k

line_nested : (h : Head) (n w : ℕ) (inner : Steps) (m : Made) (i k : ℕ) → head_nesting h ≡ 0 → steps_nesting inner ≤ i → IsNested m k → IsNested (with_line h n w inner m) (max (suc i) k)
line_nested (simple st) n w inner m i k z le r = record { branches = omega (arith); other = omega (arith); steps = omega (arith, z, r.steps) }
line_nested (tests a) n w inner m i k z le r = record { branches = omega (arith); other = omega (arith); steps = omega (arith, le, r.branches, r.other, r.steps) }
line_nested (tests_again a) n w inner m i k z le r = record { branches = omega (arith, le, r.branches); other = omega (arith, r.other); steps = omega (arith, r.steps) }
line_nested otherwise n w inner m i k z le r = record { branches = omega (arith); other = omega (arith, le); steps = omega (arith, r.steps) }
line_nested (repeats bs a) n w inner m i k z le r = record { branches = omega (arith); other = omega (arith); steps = omega (arith, le, r.steps) }
line_nested (makes b ps ds) n w inner m i k z le r = record { branches = omega (arith); other = omega (arith); steps = omega (arith, le, r.steps) }

made_nested : (s : Scope) (ls : Lines) → IsNested (made s ls) (lines_nesting ls)
made_nested s no_lines = record { branches = omega (arith); other = omega (arith); steps = omega (arith) }
made_nested s (a_line n f inner ls) =
    let t = scope_of s f inner in
    line_nested (head s f) n (width t.levels) (made t inner).steps (made s ls) (lines_nesting inner) (lines_nesting ls) (head_flat s f) (made_nested t inner).steps (made_nested s ls)

pub nested_within : (s : Scope) (ls : Lines) → steps_nesting (made s ls).steps ≤ lines_nesting ls
nested_within s ls = (made_nested s ls).steps

-- the numbers of functions change nothing of this
abbrev AsDeep : Statement → Statement → Type 0
AsDeep a b = (statement_depth a ≡ statement_depth b) × (statement_nesting a ≡ statement_nesting b)

statement_numbered : (k : ℕ) (st : Statement) → AsDeep (with_number k st) st
statement_numbered k (load p is) = (refl, refl)
statement_numbered k (assign bs a) = (refl, refl)
statement_numbered k (assign_item f a b) = (refl, refl)
statement_numbered k (add_to x a) = (refl, refl)
statement_numbered k (add_to_item f a b) = (refl, refl)
statement_numbered k (evaluate a) = (refl, refl)
statement_numbered k pass = (refl, refl)
statement_numbered k break_loop = (refl, refl)
statement_numbered k continue_loop = (refl, refl)
statement_numbered k (give_back a) = (refl, refl)
statement_numbered k (branch bs other) = (refl, refl)
statement_numbered k (loop bs a inner) = (refl, refl)
statement_numbered k (define j x ps ds n inner) = (refl, refl)

pub numbered_depth : (k : ℕ) (ss : Steps) → steps_depth (numbered k ss) ≡ steps_depth ss
numbered_depth k no_steps = refl
numbered_depth k (step n st ss) = let i = (statement_numbered k st).0 in let j = numbered_depth (next_number k st) ss in omega (arith, i, j)

pub numbered_nesting : (k : ℕ) (ss : Steps) → steps_nesting (numbered k ss) ≡ steps_nesting ss
numbered_nesting k no_steps = refl
numbered_nesting k (step n st ss) = let i = (statement_numbered k st).1 in let j = numbered_nesting (next_number k st) ss in omega (arith, i, j)

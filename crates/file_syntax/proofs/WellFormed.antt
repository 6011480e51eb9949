-- What is so of the lines of a file by its grammar: each comprehension begins with a `for`, no number is too great, and each
-- form stands in its place, on a line from 1 on.
use Rattle.std.proofs.Common.{◌≡◌, ◌≤◌, ℕ, Bool, true, false, None, Some, refl, sym, subst}
use Rattle.std.specs.List.{AllByRecursion}
use Rattle.lexer.specs.declared.file_kind.FileKind.{FileKind}
use Rattle.lexer.specs.declared.file_kind.FileKind.TheVariants.{Module, Build}
use Rattle.lexer.specs.declared.layout.Bracket.TheVariants.{Round, Square, Curly}
use Rattle.lexer.specs.Begins.{greatest_number}
use Rattle.grammar.specs.Tree as expr
use Rattle.grammar.specs.Tree.{Expr, Members, Clauses}
use Rattle.grammar.specs.Levels.{items, entries, arguments, starts_with_for, IsTree, AreMembers, AreClauses}
use Rattle.grammar.specs.Statements as written
use Rattle.grammar.specs.Statements.{Listed, AreListed, IsSimple, IsBody, AreParams, IsForm, Commas}
use Rattle.grammar.specs.Places as place
use Rattle.grammar.specs.Places.{Place, top_of_module, top_of_build, stands, simple_stands, body_stands}
use Rattle.grammar.specs.Blocks as laid
use Rattle.grammar.specs.Blocks.{Block, IsBlock}
use Rattle.grammar.specs.Bare.{Tree, named, numeral, quoted, tuple, listing, dict, choice, operates, turned, selects, subscript, invokes, each, each_entry, Trees, no_trees, more_trees, Entries, no_entries, more_entries, Keywords, no_keywords, more_keywords, Rest, done, for_each, only_if, bare, plain_of, entries_of, keywords_of, rest_of}
use Rattle.grammar.specs.BareLines.{Param, required, optional, Form, loads, defines, if_head, elif_head, else_head, for_head, assigns, assigns_at, increases, increases_at, evaluates, passes, breaks, continues, returns, Lines, no_lines, a_line, listed_tree, listed_trees, bare_simple, bare_param, without_commas, bare_form, body_lines, own_lines, bare_lines}
use Rattle.file_syntax.proofs.TokensFit.{ExprFits, MembersFit, ClausesFit, ListedFit, SimpleFits, BodyFits, ParamsFit, FormFits, BlockFits}
use Rattle.file_syntax.specs.IsProgram.{Around, at_top, in_function, in_loop, AtTop, InFunction, InLoop}

abbrev pub begins : Rest → Bool
begins done = false
begins (for_each x xs a r) = true
begins (only_if a r) = false

abbrev mutual
  pub Well : Tree → Type 0
  Well (named x) = Unit {0}
  Well (numeral n) = n ≤ greatest_number
  Well (quoted t) = Unit {0}
  Well (tuple ts) = AreWell ts
  Well (listing ts) = AreWell ts
  Well (dict es) = EntriesWell es
  Well (choice a c b) = Well a × Well c × Well b
  Well (operates o a b) = Well a × Well b
  Well (turned o a) = Well a
  Well (selects f x) = Well f
  Well (subscript f a) = Well f × Well a
  Well (invokes f ts ks) = Well f × AreWell ts × KeywordsWell ks
  Well (each a r) = (begins r ≡ true) × Well a × RestWell r
  Well (each_entry k v r) = (begins r ≡ true) × Well k × Well v × RestWell r

  pub AreWell : Trees → Type 0
  AreWell no_trees = Unit {0}
  AreWell (more_trees a ts) = Well a × AreWell ts

  pub EntriesWell : Entries → Type 0
  EntriesWell no_entries = Unit {0}
  EntriesWell (more_entries k v es) = Well k × Well v × EntriesWell es

  pub KeywordsWell : Keywords → Type 0
  KeywordsWell no_keywords = Unit {0}
  KeywordsWell (more_keywords x a ks) = Well a × KeywordsWell ks

  pub RestWell : Rest → Type 0
  RestWell done = Unit {0}
  RestWell (for_each x xs a r) = Well a × RestWell r
  RestWell (only_if a r) = Well a × RestWell r

mutual
  tree_well : (a : Expr) → IsTree a → ExprFits a → Well (bare a)
  tree_well (expr.identifier x) h k = tt
  tree_well (expr.integer n) h k = k
  tree_well (expr.text s) h k = tt
  tree_well (expr.display Round expr.no_members) h k = tt
  tree_well (expr.display Round (expr.last_member (expr.plain a))) h k = tree_well a h.1 k
  tree_well (expr.display Round (expr.last_member (expr.keyword x a))) h k = let j = h.0 in absurd cc
  tree_well (expr.display Round (expr.last_member (expr.entry a b))) h k = let j = h.0 in absurd cc
  tree_well (expr.display Round (expr.next_member m ms)) h k = items_well (expr.next_member m ms) h k
  tree_well (expr.display Square ms) h k = items_well ms h k
  tree_well (expr.display Curly ms) h k = entries_well ms h k
  tree_well (expr.comprehension Round m cs) h k = let j = h.0 in absurd cc
  tree_well (expr.comprehension Square (expr.plain a) cs) h k = (starts cs h.3, tree_well a h.2 k.0, clauses_well cs h.4 k.1)
  tree_well (expr.comprehension Square (expr.keyword x a) cs) h k = let j = h.1 in absurd cc
  tree_well (expr.comprehension Square (expr.entry a b) cs) h k = let j = h.1 in absurd cc
  tree_well (expr.comprehension Curly (expr.plain a) cs) h k = let j = h.1 in absurd cc
  tree_well (expr.comprehension Curly (expr.keyword x a) cs) h k = let j = h.1 in absurd cc
  tree_well (expr.comprehension Curly (expr.entry a b) cs) h k =
      (starts cs h.3, tree_well a h.2.0 k.0.0, tree_well b h.2.1 k.0.1, clauses_well cs h.4 k.1)
  tree_well (expr.conditional a c b) h k = (tree_well a h.1 k.0, tree_well c h.3 k.1, tree_well b h.4 k.2)
  tree_well (expr.operation o a b) h k = (tree_well a h.1 k.0, tree_well b h.3 k.1)
  tree_well (expr.signed s a) h k = tree_well a h.1 k
  tree_well (expr.field f x) h k = tree_well f h.1 k
  tree_well (expr.index f a) h k = (tree_well f h.1 k.0, tree_well a h.2 k.1)
  tree_well (expr.call f ms) h k = let r = arguments_well ms h.3 k.1 in (tree_well f h.1 k.0, r.0, r.1)

  starts : (cs : Clauses) → starts_with_for cs ≡ true → begins (rest_of cs) ≡ true
  starts expr.no_clauses h = absurd cc
  starts (expr.for_clause x xs a cs) h = refl
  starts (expr.if_clause a cs) h = absurd cc

  items_well : (ms : Members) → AreMembers items ms → MembersFit ms → AreWell (plain_of ms)
  items_well expr.no_members h k = tt
  items_well (expr.last_member (expr.plain a)) h k = (tree_well a h.1 k, tt)
  items_well (expr.last_member (expr.keyword x a)) h k = let j = h.0 in absurd cc
  items_well (expr.last_member (expr.entry a b)) h k = let j = h.0 in absurd cc
  items_well (expr.next_member (expr.plain a) ms) h k = (tree_well a h.1 k.0, items_well ms h.2 k.1)
  items_well (expr.next_member (expr.keyword x a) ms) h k = let j = h.0 in absurd cc
  items_well (expr.next_member (expr.entry a b) ms) h k = let j = h.0 in absurd cc

  entries_well : (ms : Members) → AreMembers entries ms → MembersFit ms → EntriesWell (entries_of ms)
  entries_well expr.no_members h k = tt
  entries_well (expr.last_member (expr.plain a)) h k = let j = h.0 in absurd cc
  entries_well (expr.last_member (expr.keyword x a)) h k = let j = h.0 in absurd cc
  entries_well (expr.last_member (expr.entry a b)) h k = (tree_well a h.1.0 k.0, tree_well b h.1.1 k.1, tt)
  entries_well (expr.next_member (expr.plain a) ms) h k = let j = h.0 in absurd cc
  entries_well (expr.next_member (expr.keyword x a) ms) h k = let j = h.0 in absurd cc
  entries_well (expr.next_member (expr.entry a b) ms) h k =
      (tree_well a h.1.0 k.0.0, tree_well b h.1.1 k.0.1, entries_well ms h.2 k.1)

  arguments_well : (ms : Members) → AreMembers arguments ms → MembersFit ms → AreWell (plain_of ms) × KeywordsWell (keywords_of ms)
  arguments_well expr.no_members h k = (tt, tt)
  arguments_well (expr.last_member (expr.plain a)) h k = ((tree_well a h.1 k, tt), tt)
  arguments_well (expr.last_member (expr.keyword x a)) h k = (tt, (tree_well a h.1 k, tt))
  arguments_well (expr.last_member (expr.entry a b)) h k = let j = h.0 in absurd cc
  arguments_well (expr.next_member (expr.plain a) ms) h k = let r = arguments_well ms h.2 k.1 in ((tree_well a h.1 k.0, r.0), r.1)
  arguments_well (expr.next_member (expr.keyword x a) ms) h k = let r = arguments_well ms h.2 k.1 in (r.0, (tree_well a h.1 k.0, r.1))
  arguments_well (expr.next_member (expr.entry a b) ms) h k = let j = h.0 in absurd cc

  clauses_well : (cs : Clauses) → AreClauses cs → ClausesFit cs → RestWell (rest_of cs)
  clauses_well expr.no_clauses h k = tt
  clauses_well (expr.for_clause x xs a cs) h k = (tree_well a h.1 k.0, clauses_well cs h.2 k.1)
  clauses_well (expr.if_clause a cs) h k = (tree_well a h.1 k.0, clauses_well cs h.2 k.1)

several_well : (l : Listed) → AreListed l → ListedFit l → AreWell (listed_trees l)
several_well (written.alone a) h k = (tree_well a h k, tt)
several_well (written.followed a l) h k = (tree_well a h.0 k.0, several_well l h.1 k.1)

listed_well : (l : Listed) → AreListed l → ListedFit l → Well (listed_tree l)
listed_well (written.alone a) h k = tree_well a h k
listed_well (written.followed a l) h k = several_well (written.followed a l) h k

abbrev pub ParamWell : Param → Type 0
ParamWell (required x) = Unit {0}
ParamWell (optional x a) = Well a

-- a form in its place
abbrev pub FormWell : Around → Form → Type 0
FormWell p (loads m is) = AtTop p
FormWell p (defines x ps) = AtTop p × AllByRecursion ParamWell ps
FormWell p (if_head a) = InFunction p × Well a
FormWell p (elif_head a) = InFunction p × Well a
FormWell p else_head = InFunction p
FormWell p (for_head x xs a) = InFunction p × Well a
FormWell p (assigns x xs a) = Well a
FormWell p (assigns_at f a b) = Well f × Well a × Well b
FormWell p (increases x a) = Well a
FormWell p (increases_at f a b) = Well f × Well a × Well b
FormWell p (evaluates a) = Well a
FormWell p passes = Unit {0}
FormWell p breaks = InLoop p
FormWell p continues = InLoop p
FormWell p (returns None) = InFunction p
FormWell p (returns (Some a)) = InFunction p × Well a

-- what is around the lines of its block
abbrev pub around : Around → Form → Around
around p (defines x ps) = in_function
around p (for_head x xs a) = in_loop
around p f = p

abbrev pub LinesWell : Around → Lines → Type 0
LinesWell p no_lines = Unit {0}
LinesWell p (a_line n f inner ls) = FormWell p f × LinesWell (around p f) inner × LinesWell p ls × (1 ≤ n)

abbrev seen : Place → Around
seen top_of_module = at_top
seen top_of_build = at_top
seen place.in_function = in_function
seen place.in_loop = in_loop

simple_well : (p : Place) (s : written.Simple) → IsSimple s → SimpleFits s → simple_stands p s ≡ true → FormWell (seen p) (bare_simple s)
simple_well p (written.assigns x xs l) h j k = listed_well l h j
simple_well p (written.assigns_at f a l) h j k = (tree_well f h.0.1 j.0.0, tree_well a h.0.2 j.0.1, listed_well l h.1 j.1)
simple_well p (written.increases x a) h j k = tree_well a h j
simple_well p (written.increases_at f a b) h j k = (tree_well f h.0.1 j.0.0, tree_well a h.0.2 j.0.1, tree_well b h.1 j.1)
simple_well p (written.evaluates a) h j k = tree_well a h j
simple_well p written.passes h j k = tt
simple_well top_of_module written.breaks h j k = absurd cc
simple_well top_of_build written.breaks h j k = absurd cc
simple_well place.in_function written.breaks h j k = absurd cc
simple_well place.in_loop written.breaks h j k = tt
simple_well top_of_module written.continues h j k = absurd cc
simple_well top_of_build written.continues h j k = absurd cc
simple_well place.in_function written.continues h j k = absurd cc
simple_well place.in_loop written.continues h j k = tt
simple_well top_of_module written.returns h j k = absurd cc
simple_well top_of_build written.returns h j k = absurd cc
simple_well place.in_function written.returns h j k = tt
simple_well place.in_loop written.returns h j k = tt
simple_well top_of_module (written.returns_list l) h j k = absurd cc
simple_well top_of_build (written.returns_list l) h j k = absurd cc
simple_well place.in_function (written.returns_list l) h j k = (tt, listed_well l h j)
simple_well place.in_loop (written.returns_list l) h j k = (tt, listed_well l h j)

params_well : (ps : Commas written.Param) → AreParams ps → ParamsFit ps → AllByRecursion ParamWell (without_commas bare_param ps)
params_well written.none_more h j = tt
params_well (written.last_one (written.required x)) h j = (tt, tt)
params_well (written.last_one (written.optional x a)) h j = (tree_well a h j, tt)
params_well (written.and_more (written.required x) ps) h j = (tt, params_well ps h.1 j.1)
params_well (written.and_more (written.optional x a) ps) h j = (tree_well a h.0 j.0, params_well ps h.1 j.1)

body_well : (p : Place) (n : ℕ) (b : written.Body) → 1 ≤ n → IsBody b → BodyFits b → body_stands p b ≡ true → LinesWell (seen p) (body_lines n b)
body_well p n written.block le h j k = tt
body_well p n (written.inline s) le h j k = (simple_well p s h j k, tt, tt, le)

-- a form, and the statement on its line
form_well : (p : Place) (n : ℕ) (f : written.Form) → 1 ≤ n → IsForm f → FormFits f → stands p f ≡ true
    → FormWell (seen p) (bare_form f) × LinesWell (around (seen p) (bare_form f)) (own_lines n f)
form_well top_of_module n (written.loads s is) le h j k = (tt, tt)
form_well top_of_build n (written.loads s is) le h j k = (tt, tt)
form_well place.in_function n (written.loads s is) le h j k = absurd cc
form_well place.in_loop n (written.loads s is) le h j k = absurd cc
form_well p n (written.simple s) le h j k = (simple_well p s h j k, tt)
form_well top_of_module n (written.defines x ps b) le h j k = ((tt, params_well ps h.0 j.0), body_well place.in_function n b le h.1 j.1 k)
form_well top_of_build n (written.defines x ps b) le h j k = absurd cc
form_well place.in_function n (written.defines x ps b) le h j k = absurd cc
form_well place.in_loop n (written.defines x ps b) le h j k = absurd cc
form_well top_of_module n (written.if_head a b) le h j k = absurd cc
form_well top_of_build n (written.if_head a b) le h j k = absurd cc
form_well place.in_function n (written.if_head a b) le h j k = ((tt, tree_well a h.0 j.0), body_well place.in_function n b le h.1 j.1 k)
form_well place.in_loop n (written.if_head a b) le h j k = ((tt, tree_well a h.0 j.0), body_well place.in_loop n b le h.1 j.1 k)
form_well top_of_module n (written.elif_head a b) le h j k = absurd cc
form_well top_of_build n (written.elif_head a b) le h j k = absurd cc
form_well place.in_function n (written.elif_head a b) le h j k = ((tt, tree_well a h.0 j.0), body_well place.in_function n b le h.1 j.1 k)
form_well place.in_loop n (written.elif_head a b) le h j k = ((tt, tree_well a h.0 j.0), body_well place.in_loop n b le h.1 j.1 k)
form_well top_of_module n (written.else_head b) le h j k = absurd cc
form_well top_of_build n (written.else_head b) le h j k = absurd cc
form_well place.in_function n (written.else_head b) le h j k = (tt, body_well place.in_function n b le h j k)
form_well place.in_loop n (written.else_head b) le h j k = (tt, body_well place.in_loop n b le h j k)
form_well top_of_module n (written.for_head x xs a b) le h j k = absurd cc
form_well top_of_build n (written.for_head x xs a b) le h j k = absurd cc
form_well place.in_function n (written.for_head x xs a b) le h j k = ((tt, tree_well a h.0 j.0), body_well place.in_loop n b le h.1 j.1 k)
form_well place.in_loop n (written.for_head x xs a b) le h j k = ((tt, tree_well a h.0 j.0), body_well place.in_loop n b le h.1 j.1 k)

simple_around : (p : Around) (s : written.Simple) → around p (bare_simple s) ≡ p
simple_around p (written.assigns x xs l) = refl
simple_around p (written.assigns_at f a l) = refl
simple_around p (written.increases x a) = refl
simple_around p (written.increases_at f a b) = refl
simple_around p (written.evaluates a) = refl
simple_around p written.passes = refl
simple_around p written.breaks = refl
simple_around p written.continues = refl
simple_around p written.returns = refl
simple_around p (written.returns_list l) = refl

around_seen : (p : Place) (f : written.Form) → around (seen p) (bare_form f) ≡ seen (place.inside_of p f)
around_seen p (written.loads s is) = refl
around_seen p (written.simple s) = simple_around (seen p) s
around_seen p (written.defines x ps b) = refl
around_seen p (written.if_head a b) = refl
around_seen p (written.elif_head a b) = refl
around_seen p (written.else_head b) = refl
around_seen p (written.for_head x xs a b) = refl

block_well : (p : Place) (after early : Bool) (c : ℕ) (b : Block) → IsBlock p after early c b → BlockFits b → LinesWell (seen p) (bare_lines b)
block_well p after early c laid.no_lines h j = tt
block_well p after early c (laid.plain_line n f b) h j =
    let r = form_well p n f j.0 h.0.is_form j.1 h.0.stands_there in (r.0, r.1, block_well p _ _ c b h.2 j.2, j.0)
block_well p after early c (laid.head_line n f d inner b) h j = (
  (form_well p n f j.0 h.0.is_form j.1 h.0.stands_there).0,
  subst (λ q. LinesWell q (bare_lines inner)) (sym (around_seen p f)) (block_well (place.inside_of p f) false false d inner h.4 j.2),
  block_well p _ _ c b h.5 j.3,
  j.0,
)

-- the lines of a file
pub file_well : (kind : FileKind) (b : Block) → IsBlock (place.top_of kind) false true 0 b → BlockFits b → LinesWell at_top (bare_lines b)
file_well Module b h j = block_well top_of_module false true 0 b h j
file_well Build b h j = block_well top_of_build false true 0 b h j

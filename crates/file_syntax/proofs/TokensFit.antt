-- The tokens of a text stand on lines from 1 on, and no number among them is too great: so it is of a file's lines.
use Rattle.std.proofs.Common.{ℕ, ◌+◌, ◌≤◌, List, [], ◌∷◌, ◌++◌, drop, take, map, sym, subst, arith}
use Rattle.std.specs.List.{AllByRecursion}
use Rattle.lexer.specs.declared.token.Word.TheVariants.{Else, If, In}
use Rattle.lexer.specs.declared.token.Mark.TheVariants.{CloseBracket, CloseParen, AddAssign, Assign, Colon, Comma, Dot, OpenBracket, OpenParen}
use Rattle.lexer.specs.declared.file_kind.FileKind.{FileKind}
use Rattle.lexer.specs.Tokens.{Token, Placed, name, number, string, word, mark}
use Rattle.lexer.specs.Begins.{greatest_number}
use Rattle.lexer.specs.Fits as spelling
use Rattle.lexer.specs.Parts.{Part, blank, line_break, remark, spelled as token_part, Consists}
use Rattle.lexer.specs.LaidOut.{IsLogicalLine, IsReading, joined}
use Rattle.grammar.specs.Tree.{Operator, either, both, equal, not_equal, less, greater, less_equal, greater_equal, within, not_within, add, subtract, multiply, divide, remainder, Expr, identifier, integer, text, display, comprehension, conditional, operation, signed, field, index, call, Member, plain, keyword, entry, Members, no_members, last_member, next_member, Clauses, no_clauses, for_clause, if_clause}
use Rattle.grammar.specs.Spelling.{close_mark, operator_spelled, names_spelled, spelled, member_spelled, members_spelled, clauses_spelled}
use Rattle.grammar.specs.Statements.{Listed, alone, followed, Simple, assigns, assigns_at, increases, increases_at, evaluates, passes, breaks, continues, returns, returns_list, Body, block, inline, Param, required, optional, Commas, none_more, last_one, and_more, Form, loads, simple, defines, if_head, elif_head, else_head, for_head, listed_spelled, simple_spelled, body_spelled, param_spelled, commas_spelled, form_spelled}
use Rattle.grammar.specs.Places.{top_of}
use Rattle.grammar.specs.Blocks.{Block, no_lines, plain_line, head_line, Laid, block_laid, laid, SpellsFile}

pub split_all : {A : Type 0} (P : A → Type 0) (xs ys : List A) → AllByRecursion P (xs ++ ys) → AllByRecursion P xs × AllByRecursion P ys
split_all P [] ys h = (tt, h)
split_all P (x ∷ xs) ys h = let r = split_all P xs ys h.1 in ((h.0, r.0), r.1)

-- a token that is no number too great to be written
abbrev NumberFits : Token → Type 0
NumberFits (name x) = Unit {0}
NumberFits (number n) = n ≤ greatest_number
NumberFits (string s) = Unit {0}
NumberFits (word k) = Unit {0}
NumberFits (mark m) = Unit {0}

abbrev Fit : List Token → Type 0
Fit ts = AllByRecursion NumberFits ts

abbrev PlacedFits : Placed → Type 0
PlacedFits t = (1 ≤ t.line) × NumberFits t.token

token_fits : (bs : List ℕ) (t : Token) → spelling.Spells bs t → NumberFits t
token_fits bs (name w) h = tt
token_fits bs (number n) h = h.2
token_fits bs (string s) h = tt
token_fits bs (word k) h = tt
token_fits bs (mark m) h = tt

parts_fit : (parts : List Part) (line column : ℕ) (bs : List ℕ) (ts : List Placed) → 1 ≤ line → Consists parts line column bs ts → AllByRecursion PlacedFits ts
parts_fit [] line column bs ts le h = subst (AllByRecursion PlacedFits) (sym h.1) tt
parts_fit (blank ∷ ps) line column bs ts le h = parts_fit ps line (column + 1) h.0 ts le h.2
parts_fit (line_break ∷ ps) line column bs ts le h = parts_fit ps (line + 1) 0 h.0 ts (omega (arith, le)) h.2
parts_fit (remark n ∷ ps) line column bs ts le h = parts_fit ps line (column + n) (drop n bs) ts le h.1
parts_fit (token_part t n ∷ ps) line column bs ts le h =
    subst (AllByRecursion PlacedFits) (sym h.1.1)
    ((le, token_fits (take n bs) t h.0.0.1), parts_fit ps line (column + n) (drop n bs) h.1.0 le h.1.2)

joined_fit : (lines : List (List Placed)) → AllByRecursion PlacedFits (joined lines) → AllByRecursion (AllByRecursion PlacedFits) lines
joined_fit [] h = tt
joined_fit (l ∷ ls) h = let r = split_all PlacedFits l (joined ls) h in (r.0, joined_fit ls r.1)

abbrev LaidFits : Laid → Type 0
LaidFits l = (1 ≤ l.line) × Fit l.tokens

tokens_fit : (ts : List Placed) → AllByRecursion PlacedFits ts → Fit (map (λ t. t.token) ts)
tokens_fit [] h = tt
tokens_fit (t ∷ ts) h = (h.0.1, tokens_fit ts h.1)

laid_fit : (lines : List (List Placed)) → AllByRecursion IsLogicalLine lines → AllByRecursion (AllByRecursion PlacedFits) lines → AllByRecursion LaidFits (map laid lines)
laid_fit [] a b = tt
laid_fit ([] ∷ ls) a b = absurd a.0
laid_fit ((t ∷ ts) ∷ ls) a b = ((b.0.0.0, tokens_fit (t ∷ ts) b.0), laid_fit ls a.1 b.1)

-- an expression without a number too great to be written
abbrev mutual
  pub ExprFits : Expr → Type 0
  ExprFits (identifier x) = Unit {0}
  ExprFits (integer n) = n ≤ greatest_number
  ExprFits (text s) = Unit {0}
  ExprFits (display b ms) = MembersFit ms
  ExprFits (comprehension b m cs) = MemberFits m × ClausesFit cs
  ExprFits (conditional a c b) = ExprFits a × ExprFits c × ExprFits b
  ExprFits (operation o a b) = ExprFits a × ExprFits b
  ExprFits (signed s a) = ExprFits a
  ExprFits (field f x) = ExprFits f
  ExprFits (index f a) = ExprFits f × ExprFits a
  ExprFits (call f ms) = ExprFits f × MembersFit ms

  pub MemberFits : Member → Type 0
  MemberFits (plain a) = ExprFits a
  MemberFits (keyword x a) = ExprFits a
  MemberFits (entry k v) = ExprFits k × ExprFits v

  pub MembersFit : Members → Type 0
  MembersFit no_members = Unit {0}
  MembersFit (last_member m) = MemberFits m
  MembersFit (next_member m ms) = MemberFits m × MembersFit ms

  pub ClausesFit : Clauses → Type 0
  ClausesFit no_clauses = Unit {0}
  ClausesFit (for_clause x xs a cs) = ExprFits a × ClausesFit cs
  ClausesFit (if_clause a cs) = ExprFits a × ClausesFit cs

behind_operator : (o : Operator) (ts : List Token) → Fit (operator_spelled o ts) → Fit ts
behind_operator either ts h = h.1
behind_operator both ts h = h.1
behind_operator equal ts h = h.1
behind_operator not_equal ts h = h.1
behind_operator less ts h = h.1
behind_operator greater ts h = h.1
behind_operator less_equal ts h = h.1
behind_operator greater_equal ts h = h.1
behind_operator within ts h = h.1
behind_operator not_within ts h = h.1.1
behind_operator add ts h = h.1
behind_operator subtract ts h = h.1
behind_operator multiply ts h = h.1
behind_operator divide ts h = h.1
behind_operator remainder ts h = h.1

behind_names : (xs : List (List ℕ)) (ts : List Token) → Fit (names_spelled xs ts) → Fit ts
behind_names [] ts h = h
behind_names (x ∷ xs) ts h = behind_names xs ts h.1.1

mutual
  expr_fits : (a : Expr) (ts : List Token) → Fit (spelled a ts) → ExprFits a × Fit ts
  expr_fits (identifier x) ts h = (tt, h.1)
  expr_fits (integer n) ts h = (h.0, h.1)
  expr_fits (text s) ts h = (tt, h.1)
  expr_fits (display b ms) ts h = let r = members_fit ms (mark (close_mark b) ∷ ts) h.1 in (r.0, r.1.1)
  expr_fits (comprehension b m cs) ts h =
      let r = member_fits m (clauses_spelled cs (mark (close_mark b) ∷ ts)) h.1 in
      let q = clauses_fit cs (mark (close_mark b) ∷ ts) r.1 in
      ((r.0, q.0), q.1.1)
  expr_fits (conditional a c b) ts h =
      let r = expr_fits a (word If ∷ spelled c (word Else ∷ spelled b ts)) h in
      let q = expr_fits c (word Else ∷ spelled b ts) r.1.1 in
      let p = expr_fits b ts q.1.1 in
      ((r.0, q.0, p.0), p.1)
  expr_fits (operation o a b) ts h =
      let r = expr_fits a (operator_spelled o (spelled b ts)) h in
      let q = expr_fits b ts (behind_operator o (spelled b ts) r.1) in
      ((r.0, q.0), q.1)
  expr_fits (signed s a) ts h = expr_fits a ts h.1
  expr_fits (field f x) ts h = let r = expr_fits f (mark Dot ∷ name x ∷ ts) h in (r.0, r.1.1.1)
  expr_fits (index f a) ts h =
      let r = expr_fits f (mark OpenBracket ∷ spelled a (mark CloseBracket ∷ ts)) h in
      let q = expr_fits a (mark CloseBracket ∷ ts) r.1.1 in
      ((r.0, q.0), q.1.1)
  expr_fits (call f ms) ts h =
      let r = expr_fits f (mark OpenParen ∷ members_spelled ms (mark CloseParen ∷ ts)) h in
      let q = members_fit ms (mark CloseParen ∷ ts) r.1.1 in
      ((r.0, q.0), q.1.1)

  member_fits : (m : Member) (ts : List Token) → Fit (member_spelled m ts) → MemberFits m × Fit ts
  member_fits (plain a) ts h = expr_fits a ts h
  member_fits (keyword x a) ts h = expr_fits a ts h.1.1
  member_fits (entry k v) ts h =
      let r = expr_fits k (mark Colon ∷ spelled v ts) h in
      let q = expr_fits v ts r.1.1 in
      ((r.0, q.0), q.1)

  members_fit : (ms : Members) (ts : List Token) → Fit (members_spelled ms ts) → MembersFit ms × Fit ts
  members_fit no_members ts h = (tt, h)
  members_fit (last_member m) ts h = member_fits m ts h
  members_fit (next_member m ms) ts h =
      let r = member_fits m (mark Comma ∷ members_spelled ms ts) h in
      let q = members_fit ms ts r.1.1 in
      ((r.0, q.0), q.1)

  clauses_fit : (cs : Clauses) (ts : List Token) → Fit (clauses_spelled cs ts) → ClausesFit cs × Fit ts
  clauses_fit no_clauses ts h = (tt, h)
  clauses_fit (for_clause x xs a cs) ts h =
      let n = behind_names xs (word In ∷ spelled a (clauses_spelled cs ts)) h.1.1 in
      let r = expr_fits a (clauses_spelled cs ts) n.1 in
      let q = clauses_fit cs ts r.1 in
      ((r.0, q.0), q.1)
  clauses_fit (if_clause a cs) ts h =
      let r = expr_fits a (clauses_spelled cs ts) h.1 in
      let q = clauses_fit cs ts r.1 in
      ((r.0, q.0), q.1)

-- the same of lines
abbrev pub ListedFit : Listed → Type 0
ListedFit (alone a) = ExprFits a
ListedFit (followed a l) = ExprFits a × ListedFit l

listed_fit : (l : Listed) → Fit (listed_spelled l) → ListedFit l
listed_fit (alone a) h = (expr_fits a [] h).0
listed_fit (followed a l) h = let r = expr_fits a (mark Comma ∷ listed_spelled l) h in (r.0, listed_fit l r.1.1)

abbrev pub SimpleFits : Simple → Type 0
SimpleFits (assigns x xs l) = ListedFit l
SimpleFits (assigns_at f a l) = ExprFits (index f a) × ListedFit l
SimpleFits (increases x a) = ExprFits a
SimpleFits (increases_at f a b) = ExprFits (index f a) × ExprFits b
SimpleFits (evaluates a) = ExprFits a
SimpleFits passes = Unit {0}
SimpleFits breaks = Unit {0}
SimpleFits continues = Unit {0}
SimpleFits returns = Unit {0}
SimpleFits (returns_list l) = ListedFit l

simple_fits : (s : Simple) → Fit (simple_spelled s) → SimpleFits s
simple_fits (assigns x xs l) h = listed_fit l (behind_names xs (mark Assign ∷ listed_spelled l) h.1).1
simple_fits (assigns_at f a l) h =
    let r = expr_fits (index f a) (mark Assign ∷ listed_spelled l) h in (r.0, listed_fit l r.1.1)
simple_fits (increases x a) h = (expr_fits a [] h.1.1).0
simple_fits (increases_at f a b) h =
    let r = expr_fits (index f a) (mark AddAssign ∷ spelled b []) h in (r.0, (expr_fits b [] r.1.1).0)
simple_fits (evaluates a) h = (expr_fits a [] h).0
simple_fits passes h = tt
simple_fits breaks h = tt
simple_fits continues h = tt
simple_fits returns h = tt
simple_fits (returns_list l) h = listed_fit l h.1

abbrev pub BodyFits : Body → Type 0
BodyFits block = Unit {0}
BodyFits (inline s) = SimpleFits s

body_fits : (b : Body) → Fit (body_spelled b) → BodyFits b
body_fits block h = tt
body_fits (inline s) h = simple_fits s h.1

abbrev pub ParamFits : Param → Type 0
ParamFits (required x) = Unit {0}
ParamFits (optional x a) = ExprFits a

abbrev pub ParamsFit : Commas Param → Type 0
ParamsFit none_more = Unit {0}
ParamsFit (last_one p) = ParamFits p
ParamsFit (and_more p ps) = ParamFits p × ParamsFit ps

param_fits : (p : Param) (ts : List Token) → Fit (param_spelled p ts) → ParamFits p × Fit ts
param_fits (required x) ts h = (tt, h.1)
param_fits (optional x a) ts h = expr_fits a ts h.1.1

params_fit : (ps : Commas Param) (ts : List Token) → Fit (commas_spelled param_spelled ps ts) → ParamsFit ps × Fit ts
params_fit none_more ts h = (tt, h)
params_fit (last_one p) ts h = param_fits p ts h
params_fit (and_more p ps) ts h =
    let r = param_fits p (mark Comma ∷ commas_spelled param_spelled ps ts) h in
    let q = params_fit ps ts r.1.1 in
    ((r.0, q.0), q.1)

abbrev pub FormFits : Form → Type 0
FormFits (loads s items) = Unit {0}
FormFits (simple s) = SimpleFits s
FormFits (defines x ps body) = ParamsFit ps × BodyFits body
FormFits (if_head a body) = ExprFits a × BodyFits body
FormFits (elif_head a body) = ExprFits a × BodyFits body
FormFits (else_head body) = BodyFits body
FormFits (for_head x xs a body) = ExprFits a × BodyFits body

form_fits : (f : Form) → Fit (form_spelled f) → FormFits f
form_fits (loads s items) h = tt
form_fits (simple s) h = simple_fits s h
form_fits (defines x ps body) h =
    let r = params_fit ps (mark CloseParen ∷ body_spelled body) h.1.1.1 in (r.0, body_fits body r.1.1)
form_fits (if_head a body) h = let r = expr_fits a (body_spelled body) h.1 in (r.0, body_fits body r.1)
form_fits (elif_head a body) h = let r = expr_fits a (body_spelled body) h.1 in (r.0, body_fits body r.1)
form_fits (else_head body) h = body_fits body h.1
form_fits (for_head x xs a body) h =
    let n = behind_names xs (word In ∷ spelled a (body_spelled body)) h.1.1 in
    let r = expr_fits a (body_spelled body) n.1 in
    (r.0, body_fits body r.1)

-- lines that stand on lines from 1 on
abbrev pub BlockFits : Block → Type 0
BlockFits no_lines = Unit {0}
BlockFits (plain_line n f b) = (1 ≤ n) × FormFits f × BlockFits b
BlockFits (head_line n f d inner b) = (1 ≤ n) × FormFits f × BlockFits inner × BlockFits b

block_fits : (c : ℕ) (b : Block) (rest : List Laid) → AllByRecursion LaidFits (block_laid c b rest) → BlockFits b × AllByRecursion LaidFits rest
block_fits c no_lines rest h = (tt, h)
block_fits c (plain_line n f b) rest h =
    let r = block_fits c b rest h.1 in ((h.0.0, form_fits f h.0.1, r.0), r.1)
block_fits c (head_line n f d inner b) rest h =
    let r = block_fits d inner (block_laid c b rest) h.1 in
    let q = block_fits c b rest r.1 in
    ((h.0.0, form_fits f h.0.1, r.0, q.0), q.1)

pub file_fits : (bs : List ℕ) (kind : FileKind) (lines : List (List Placed)) (b : Block) → IsReading bs lines → SpellsFile (top_of kind) lines b → BlockFits b
file_fits bs kind lines b r s =
    let tokens = parts_fit r.read.0 1 0 bs r.tokens (omega arith) r.read.1 in
    let all = joined_fit lines (subst (AllByRecursion PlacedFits) (sym r.laid_out.whole) tokens) in
    (block_fits 0 b [] (subst (AllByRecursion LaidFits) s.whole (laid_fit lines r.laid_out.logical all))).0

-- A form that a block follows ends with `:`, so the last line of a laid-out file is none.
use Rattle.std.proofs.Common.{◌≡◌, ℕ, Bool, true, false, List, [], ◌∷◌, ◌++◌, map, refl, sym, ap, ◌∙◌}
use Rattle.lexer.specs.declared.token.Word.TheVariants.{Def, Elif, Else, For, If, In, Not}
use Rattle.lexer.specs.declared.token.Mark.TheVariants.{OpenParen, CloseParen, CloseBracket, OpenBracket, Comma, Colon, Dot, Assign}
use Rattle.lexer.specs.Tokens.{Token, Placed, name, number, string, word, mark}
use Rattle.lexer.specs.Layout.{is_colon, mark_of}
use Rattle.lexer.specs.LaidOut.{ends_with_colon, InBlocks}
use Rattle.grammar.specs.Tree.{Operator, either, both, equal, not_equal, less, greater, less_equal, greater_equal, within, not_within, add, subtract, multiply, divide, remainder, Expr, identifier, integer, text, display, comprehension, conditional, operation, signed, field, index, call, Member, plain, keyword, entry, Members, no_members, last_member, next_member, Clauses, no_clauses, for_clause, if_clause}
use Rattle.grammar.specs.Spelling.{spelled, member_spelled, members_spelled, clauses_spelled, names_spelled, operator_spelled, sign_token, open_mark, close_mark}
use Rattle.grammar.specs.Statements.{Param, required, optional, Commas, none_more, last_one, and_more, block, inline, Form, loads, simple, defines, if_head, elif_head, else_head, for_head, param_spelled, commas_spelled, form_spelled}
use Rattle.grammar.specs.Places.{opens}
use Rattle.grammar.specs.Blocks.{laid}
use Rattle.grammar.proofs.StatementFaults.{LastShut}

-- tokens before others
record Before (f : List Token → List Token) : Type 0 where
  front : List Token
  by : (ts : List Token) → f ts ≡ front ++ ts

nothing : Before (λ ts. ts)
nothing = record { front = []; by = λ ts. refl }

one : (t : Token) → Before (λ ts. t ∷ ts)
one t = record { front = t ∷ []; by = λ ts. refl }

further : (u v w : List Token) → Path (List Token) (u ++ (v ++ w)) ((u ++ v) ++ w)
further [] v w = refl
further (t ∷ u) v w = ap (λ ts. t ∷ ts) (further u v w)

and_then : (f g : List Token → List Token) → Before f → Before g → Before (λ ts. f (g ts))
and_then f g h k = record { front = h.front ++ k.front; by = λ ts. h.by (g ts) ∙ ap (λ ts. h.front ++ ts) (k.by ts) ∙ further h.front k.front ts }

after_one : (t : Token) (g : List Token → List Token) → Before g → Before (λ ts. t ∷ g ts)
after_one t g h = and_then (λ ts. t ∷ ts) g (one t) h

of_operator : (o : Operator) → Before (operator_spelled o)
of_operator either = one _
of_operator both = one _
of_operator equal = one _
of_operator not_equal = one _
of_operator less = one _
of_operator greater = one _
of_operator less_equal = one _
of_operator greater_equal = one _
of_operator within = one _
of_operator not_within = after_one (word Not) (λ ts. word In ∷ ts) (one (word In))
of_operator add = one _
of_operator subtract = one _
of_operator multiply = one _
of_operator divide = one _
of_operator remainder = one _

of_names : (xs : List (List ℕ)) → Before (names_spelled xs)
of_names [] = nothing
of_names (x ∷ xs) = after_one (mark Comma) (λ ts. name x ∷ names_spelled xs ts) (after_one (name x) (names_spelled xs) (of_names xs))

mutual
  of_tree : (t : Expr) → Before (spelled t)
  of_tree (identifier x) = one (name x)
  of_tree (integer n) = one (number n)
  of_tree (text s) = one (string s)
  of_tree (display b ms) = after_one (mark (open_mark b)) (λ ts. members_spelled ms (mark (close_mark b) ∷ ts)) (and_then (members_spelled ms) (λ ts. mark (close_mark b) ∷ ts) (of_members ms) (one _))
  of_tree (comprehension b m cs) =
      after_one (mark (open_mark b)) (λ ts. member_spelled m (clauses_spelled cs (mark (close_mark b) ∷ ts)))
      (and_then (member_spelled m) (λ ts. clauses_spelled cs (mark (close_mark b) ∷ ts)) (of_member m) (and_then (clauses_spelled cs) (λ ts. mark (close_mark b) ∷ ts) (of_clauses cs) (one _)))
  of_tree (conditional a c b) =
      and_then (spelled a) (λ ts. word If ∷ spelled c (word Else ∷ spelled b ts)) (of_tree a)
      (after_one (word If) (λ ts. spelled c (word Else ∷ spelled b ts)) (and_then (spelled c) (λ ts. word Else ∷ spelled b ts) (of_tree c) (after_one (word Else) (spelled b) (of_tree b))))
  of_tree (operation o a b) = and_then (spelled a) (λ ts. operator_spelled o (spelled b ts)) (of_tree a) (and_then (operator_spelled o) (spelled b) (of_operator o) (of_tree b))
  of_tree (signed s a) = after_one (sign_token s) (spelled a) (of_tree a)
  of_tree (field f x) = and_then (spelled f) (λ ts. mark Dot ∷ name x ∷ ts) (of_tree f) (after_one (mark Dot) (λ ts. name x ∷ ts) (one (name x)))
  of_tree (index f a) =
      and_then (spelled f) (λ ts. mark OpenBracket ∷ spelled a (mark CloseBracket ∷ ts)) (of_tree f)
      (after_one (mark OpenBracket) (λ ts. spelled a (mark CloseBracket ∷ ts)) (and_then (spelled a) (λ ts. mark CloseBracket ∷ ts) (of_tree a) (one _)))
  of_tree (call f ms) =
      and_then (spelled f) (λ ts. mark OpenParen ∷ members_spelled ms (mark CloseParen ∷ ts)) (of_tree f)
      (after_one (mark OpenParen) (λ ts. members_spelled ms (mark CloseParen ∷ ts)) (and_then (members_spelled ms) (λ ts. mark CloseParen ∷ ts) (of_members ms) (one _)))

  of_member : (m : Member) → Before (member_spelled m)
  of_member (plain a) = of_tree a
  of_member (keyword x a) = after_one (name x) (λ ts. mark Assign ∷ spelled a ts) (after_one (mark Assign) (spelled a) (of_tree a))
  of_member (entry k v) = and_then (spelled k) (λ ts. mark Colon ∷ spelled v ts) (of_tree k) (after_one (mark Colon) (spelled v) (of_tree v))

  of_members : (ms : Members) → Before (members_spelled ms)
  of_members no_members = nothing
  of_members (last_member m) = of_member m
  of_members (next_member m ms) = and_then (member_spelled m) (λ ts. mark Comma ∷ members_spelled ms ts) (of_member m) (after_one (mark Comma) (members_spelled ms) (of_members ms))

  of_clauses : (cs : Clauses) → Before (clauses_spelled cs)
  of_clauses no_clauses = nothing
  of_clauses (for_clause x xs a cs) =
      after_one (word For) (λ ts. name x ∷ names_spelled xs (word In ∷ spelled a (clauses_spelled cs ts)))
      (after_one (name x) (λ ts. names_spelled xs (word In ∷ spelled a (clauses_spelled cs ts)))
      (and_then (names_spelled xs) (λ ts. word In ∷ spelled a (clauses_spelled cs ts)) (of_names xs)
      (after_one (word In) (λ ts. spelled a (clauses_spelled cs ts)) (and_then (spelled a) (clauses_spelled cs) (of_tree a) (of_clauses cs)))))
  of_clauses (if_clause a cs) = after_one (word If) (λ ts. spelled a (clauses_spelled cs ts)) (and_then (spelled a) (clauses_spelled cs) (of_tree a) (of_clauses cs))

of_param : (p : Param) → Before (param_spelled p)
of_param (required x) = one (name x)
of_param (optional x a) = after_one (name x) (λ ts. mark Assign ∷ spelled a ts) (after_one (mark Assign) (spelled a) (of_tree a))

of_params : (ps : Commas Param) → Before (commas_spelled param_spelled ps)
of_params none_more = nothing
of_params (last_one p) = of_param p
of_params (and_more p ps) =
    and_then (param_spelled p) (λ ts. mark Comma ∷ commas_spelled param_spelled ps ts) (of_param p)
    (after_one (mark Comma) (commas_spelled param_spelled ps) (of_params ps))

-- whether the last of some tokens is a `:`
last_colon : Bool → List Token → Bool
last_colon before [] = before
last_colon before (t ∷ ts) = last_colon (is_colon (mark_of t)) ts

-- what stands before a `:` at the end leaves it there
behind_front : (before : Bool) (front : List Token) → last_colon before (front ++ mark Colon ∷ []) ≡ true
unfolding last_colon
behind_front before [] = refl
behind_front before (t ∷ front) = behind_front (is_colon (mark_of t)) front

at_end : (f : List Token → List Token) (before : Bool) → Before f → last_colon before (f (mark Colon ∷ [])) ≡ true
at_end f before h = ap (last_colon before) (h.by (mark Colon ∷ [])) ∙ behind_front before h.front

-- the last token of a form that opens a block
open_colon : (f : Form) (before : Bool) → opens f ≡ true → last_colon before (form_spelled f) ≡ true
open_colon (loads s items) before e = absurd cc
open_colon (simple s) before e = absurd cc
open_colon (defines x ps (inline s)) before e = absurd cc
open_colon (if_head a (inline s)) before e = absurd cc
open_colon (elif_head a (inline s)) before e = absurd cc
open_colon (else_head (inline s)) before e = absurd cc
open_colon (for_head x xs a (inline s)) before e = absurd cc
open_colon (defines x ps block) before e =
    at_end (λ ts. word Def ∷ name x ∷ mark OpenParen ∷ commas_spelled param_spelled ps (mark CloseParen ∷ ts)) before
    (after_one (word Def) (λ ts. name x ∷ mark OpenParen ∷ commas_spelled param_spelled ps (mark CloseParen ∷ ts))
    (after_one (name x) (λ ts. mark OpenParen ∷ commas_spelled param_spelled ps (mark CloseParen ∷ ts))
    (after_one (mark OpenParen) (λ ts. commas_spelled param_spelled ps (mark CloseParen ∷ ts)) (and_then (commas_spelled param_spelled ps) (λ ts. mark CloseParen ∷ ts) (of_params ps) (one _)))))
open_colon (if_head a block) before e = at_end (λ ts. word If ∷ spelled a ts) before (after_one (word If) (spelled a) (of_tree a))
open_colon (elif_head a block) before e = at_end (λ ts. word Elif ∷ spelled a ts) before (after_one (word Elif) (spelled a) (of_tree a))
open_colon (else_head block) before e = at_end (λ ts. word Else ∷ ts) before (one (word Else))
open_colon (for_head x xs a block) before e =
    at_end (λ ts. word For ∷ name x ∷ names_spelled xs (word In ∷ spelled a ts)) before
    (after_one (word For) (λ ts. name x ∷ names_spelled xs (word In ∷ spelled a ts))
    (after_one (name x) (λ ts. names_spelled xs (word In ∷ spelled a ts))
    (and_then (names_spelled xs) (λ ts. word In ∷ spelled a ts) (of_names xs) (after_one (word In) (spelled a) (of_tree a)))))

-- the same of tokens with their places
placed_colon : (before : Bool) (line : List Placed) → ends_with_colon before line ≡ last_colon before (map (λ t. t.token) line)
unfolding last_colon
placed_colon before [] = refl
placed_colon before (t ∷ line) = placed_colon (is_colon (mark_of t.token)) line

tokens_laid : (line : List Placed) → (laid line).tokens ≡ map (λ t. t.token) line
tokens_laid [] = refl
tokens_laid (t ∷ ts) = refl

not_open : (line : List Placed) (f : Form) (b : Bool) → ends_with_colon false line ≡ false → (laid line).tokens ≡ form_spelled f → opens f ≡ b → b ≡ false
not_open line f false e t h = refl
not_open line f true e t h =
    let k : Path Bool false true = sym e ∙ placed_colon false line ∙ ap (last_colon false) (sym (tokens_laid line) ∙ t) ∙ open_colon f false h in absurd cc

-- the last of lines in blocks is no head of a block that is to come
pub last_shut : (lines : List (List Placed)) (blocks : List ℕ) (head : Bool) → InBlocks blocks head lines → LastShut (map laid lines)
last_shut [] blocks head h = tt
last_shut (line ∷ []) blocks head h = λ f t. not_open line f (opens f) h.2 t refl
last_shut (line ∷ next ∷ lines) blocks head h = last_shut (next ∷ lines) h.0 (ends_with_colon false line) h.2

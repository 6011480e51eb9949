-- A logical line is read as its form, and so has at most one.
use Rattle.std.proofs.Common.{◌≡◌, ℕ, suc, ◌+◌, ◌≤◌, true, List, [], ◌∷◌, Option, Some, None, refl, sym, ap, ◌∙◌, arith, length}
use Rattle.lexer.specs.declared.token.Word.TheVariants.{In}
use Rattle.lexer.specs.declared.token.Mark.TheVariants.{CloseParen, Comma, Assign, AddAssign}
use Rattle.lexer.specs.Tokens.{Token, word, mark}
use Rattle.grammar.specs.Tree.{Expr, index}
use Rattle.grammar.specs.Levels.{IsTree}
use Rattle.grammar.specs.Spelling.{spelled}
use Rattle.grammar.specs.Front.{Next, operator, dot_next, index_next, call_next, if_next, assign_next, nothing, next, name_at, keyword_at, behind_comma}
use Rattle.grammar.specs.Reading.{then_read, read}
use Rattle.grammar.specs.Statements.{Listed, alone, followed, listed_spelled, Simple, assigns, assigns_at, increases, increases_at, evaluates, passes, breaks, continues, returns, returns_list, IsSimple, simple_spelled, Body, block, inline, IsBody, body_spelled, Param, required, optional, IsParam, AreParams, param_spelled, Item, same_name, renamed, item_spelled, Commas, none_more, last_one, and_more, some_more, commas_spelled, Form, loads, simple, defines, if_head, elif_head, else_head, for_head, IsForm, form_spelled, SpellsForm}
use Rattle.grammar.specs.FormReading.{then_found, lead, string_at, item_at, commas, body_at, default_step, param_at, headed, load_end, simply, form_lead, form_at, form_reads}
use Rattle.grammar.proofs.FrontLemmas.{tail, free_of, Ends, names_found, front}
use Rattle.grammar.proofs.Sizes.{size, sized, names_length}
use Rattle.grammar.proofs.FormsRead.{listed_size, simple_size, body_size, param_size, item_size, commas_size, form_size, got, begins, simple_read, body_read, commas_read}

-- a parameter is read
default_none : (n : ℕ) (x : List ℕ) (ts : List Token) (r : Next) → free_of r ≡ true → default_step (read n) n x ts r ≡ Some (required x, ts)
default_none n x ts (assign_next u) e = Prim.cc
default_none n x ts (operator o u) e = refl
default_none n x ts (dot_next u) e = refl
default_none n x ts (index_next u) e = refl
default_none n x ts (call_next u) e = refl
default_none n x ts (if_next u) e = refl
default_none n x ts nothing e = refl

param_read : (n : ℕ) (p : Param) → IsParam p → (ts : List Token) → param_size p ≤ n → Ends ts → param_at (read n) n (param_spelled p ts) ≡ Some (p, ts)
unfolding name_at next
param_read n (required x) h ts small ends = default_none n x ts (next ts) ends.1
param_read n (optional x a) h ts small ends = ap (λ r. then_read r (λ a w. Some (optional x a, w))) (got a h n ts small ends.0)

param_front : (p : Param) (ts : List Token) → 1 ≤ front (param_spelled p ts)
unfolding front
param_front (required x) ts = Prim.omega arith
param_front (optional x a) ts = Prim.omega arith

-- what a `load` binds is read
item_read : (n : ℕ) (i : Item) → Unit {0} → (ts : List Token) → item_size i ≤ n → Ends ts → item_at (item_spelled i ts) ≡ Some (i, ts)
unfolding keyword_at next string_at
item_read n (same_name s) h ts small ends = refl
item_read n (renamed x s) h ts small ends = refl

item_front : (i : Item) (ts : List Token) → 1 ≤ front (item_spelled i ts)
unfolding front
item_front (same_name s) ts = Prim.omega arith
item_front (renamed x s) ts = Prim.omega arith

params_read : (n : ℕ) (ps : Commas Param) → AreParams ps → (ts : List Token) → commas_size param_size ps ≤ n → commas (param_at (read n) n) n (commas_spelled param_spelled ps (mark CloseParen ∷ ts)) ≡ Some (ps, ts)
params_read n ps are ts small = commas_read param_spelled param_size IsParam (param_at (read n) n) n (param_read n) param_front AreParams (λ p h. h) (λ p l h. h) ps are n ts small small

items_read : (n : ℕ) (l : Commas Item) (ts : List Token) → commas_size item_size l ≤ n → commas item_at n (commas_spelled item_spelled l (mark CloseParen ∷ ts)) ≡ Some (l, ts)
items_read n l ts small = commas_read item_spelled item_size (λ _. Unit {0}) item_at n (item_read n) item_front (λ _. Unit {0}) (λ i h. h) (λ i l h. (h, h)) l tt n ts small small

tail_body : (b : Body) → tail (body_spelled b) ≡ 0
unfolding next
tail_body block = refl
tail_body (inline s) = refl

-- a head with its expression
headed_read : (make : Expr → Body → Form) (a : Expr) (b : Body) → IsTree a → IsBody b → (n : ℕ) → size a + body_size b ≤ n → headed (read n) n make (spelled a (body_spelled b)) ≡ Some (make a b)
headed_read make a b h g n small =
    ap (λ r. then_found r (λ r. then_found (body_at (read n) n r.1) (λ b. Some (make r.0 b)))) (got a h n (body_spelled b) (Prim.omega (arith, small)) (tail_body b))
    ∙ ap (λ r. then_found r (λ b. Some (make a b))) (body_read b g n (Prim.omega (arith, small)))

simply_read : (s : Simple) → IsSimple s → (n : ℕ) → form_at (read n) n (simple_spelled s) ≡ simply (read n) n (simple_spelled s)
unfolding form_at lead
simply_read (assigns x xs l) h n = refl
simply_read (assigns_at f a l) h n = ap (form_lead (read n) n (simple_spelled (assigns_at f a l))) (begins (index f a) h.0 (mark Assign ∷ listed_spelled l))
simply_read (increases x a) h n = refl
simply_read (increases_at f a b) h n = ap (form_lead (read n) n (simple_spelled (increases_at f a b))) (begins (index f a) h.0 (mark AddAssign ∷ spelled b []))
simply_read (evaluates a) h n = ap (form_lead (read n) n (spelled a [])) (begins a h [])
simply_read passes h n = refl
simply_read breaks h n = refl
simply_read continues h n = refl
simply_read returns h n = refl
simply_read (returns_list l) h n = refl

pub form_read : (f : Form) → IsForm f → (n : ℕ) → form_size f ≤ n → form_at (read n) n (form_spelled f) ≡ Some f
unfolding form_at lead next name_at string_at behind_comma
form_read (simple s) h n small = simply_read s h n ∙ ap (λ r. then_found r (λ s. Some (simple s))) (simple_read s h n small)
form_read (if_head a body) h n small = headed_read if_head a body h.0 h.1 n small
form_read (elif_head a body) h n small = headed_read elif_head a body h.0 h.1 n small
form_read (else_head body) h n small = ap (λ r. then_found r (λ b. Some (else_head b))) (body_read body h n small)
form_read (for_head x xs a body) h n small =
    ap (λ r. then_found r (λ s. headed (read n) n (for_head x s.0) s.1)) (names_found xs (spelled a (body_spelled body)))
    ∙ headed_read (for_head x xs) a body h.0 h.1 n small
form_read (defines x ps body) h n small =
    ap (λ r. then_found r (λ ps. then_found (body_at (read n) n ps.1) (λ b. Some (defines x ps.0 b)))) (params_read n ps h.0 (body_spelled body) (Prim.omega (arith, small)))
    ∙ ap (λ r. then_found r (λ b. Some (defines x ps b))) (body_read body h.1 n (Prim.omega (arith, small)))
form_read (loads s l) h n small =
    ap (λ r. then_found r (λ l. load_end (read n) n s l.0 l.1 (some_more l.0))) (items_read n l [] small)
    ∙ ap (load_end (read n) n s l []) h

form_of : Option Form → Form → Form
form_of None d = d
form_of (Some f) d = f

-- a line has at most one form
pub one_form : (f g : Form) → IsForm f → IsForm g → form_spelled f ≡ form_spelled g → f ≡ g
unfolding form_of
one_form f g hf hg e =
    let n = form_size f + form_size g in
    let both : Path (Option Form) (Some f) (Some g) = sym (form_read f hf n (Prim.omega arith)) ∙ ap (form_at (read n) n) e ∙ form_read g hg n (Prim.omega arith) in
    ap (λ r. form_of r f) both

-- each part of a form has a token of its own
listed_sized : (l : Listed) → listed_size l ≤ suc (length (listed_spelled l))
listed_sized (alone a) = let h = sized a [] in Prim.omega (arith, h)
listed_sized (followed a l) = let h = sized a (mark Comma ∷ listed_spelled l) in let k = listed_sized l in Prim.omega (arith, h, k)

simple_sized : (s : Simple) → simple_size s ≤ suc (length (simple_spelled s))
simple_sized (assigns x xs l) = let h = listed_sized l in let k = names_length xs (mark Assign ∷ listed_spelled l) in Prim.omega (arith, h, k)
simple_sized (assigns_at f a l) = let h = listed_sized l in let k = sized (index f a) (mark Assign ∷ listed_spelled l) in Prim.omega (arith, h, k)
simple_sized (increases x a) = let h = sized a [] in Prim.omega (arith, h)
simple_sized (increases_at f a b) = let h = sized b [] in let k = sized (index f a) (mark AddAssign ∷ spelled b []) in Prim.omega (arith, h, k)
simple_sized (evaluates a) = let h = sized a [] in Prim.omega (arith, h)
simple_sized passes = Prim.omega arith
simple_sized breaks = Prim.omega arith
simple_sized continues = Prim.omega arith
simple_sized returns = Prim.omega arith
simple_sized (returns_list l) = let h = listed_sized l in Prim.omega (arith, h)

body_sized : (b : Body) → body_size b ≤ length (body_spelled b)
body_sized block = Prim.omega arith
body_sized (inline s) = let h = simple_sized s in Prim.omega (arith, h)

param_sized : (p : Param) (ts : List Token) → param_size p + length ts ≤ length (param_spelled p ts)
param_sized (required x) ts = Prim.omega arith
param_sized (optional x a) ts = let h = sized a ts in Prim.omega (arith, h)

params_sized : (ps : Commas Param) (ts : List Token) → commas_size param_size ps + length ts ≤ suc (length (commas_spelled param_spelled ps ts))
params_sized none_more ts = Prim.omega arith
params_sized (last_one p) ts = let h = param_sized p ts in Prim.omega (arith, h)
params_sized (and_more p ps) ts = let h = params_sized ps ts in let k = param_sized p (mark Comma ∷ commas_spelled param_spelled ps ts) in Prim.omega (arith, h, k)

item_sized : (i : Item) (ts : List Token) → item_size i + length ts ≤ length (item_spelled i ts)
item_sized (same_name s) ts = Prim.omega arith
item_sized (renamed x s) ts = Prim.omega arith

items_sized : (l : Commas Item) (ts : List Token) → commas_size item_size l + length ts ≤ suc (length (commas_spelled item_spelled l ts))
items_sized none_more ts = Prim.omega arith
items_sized (last_one i) ts = let h = item_sized i ts in Prim.omega (arith, h)
items_sized (and_more i l) ts = let h = items_sized l ts in let k = item_sized i (mark Comma ∷ commas_spelled item_spelled l ts) in Prim.omega (arith, h, k)

form_sized : (f : Form) → form_size f ≤ suc (length (form_spelled f))
form_sized (simple s) = simple_sized s
form_sized (if_head a body) = let h = sized a (body_spelled body) in let k = body_sized body in Prim.omega (arith, h, k)
form_sized (elif_head a body) = let h = sized a (body_spelled body) in let k = body_sized body in Prim.omega (arith, h, k)
form_sized (else_head body) = let k = body_sized body in Prim.omega (arith, k)
form_sized (for_head x xs a body) =
    let h = sized a (body_spelled body) in
    let k = body_sized body in
    let j = names_length xs (word In ∷ spelled a (body_spelled body)) in
    Prim.omega (arith, h, k, j)
form_sized (defines x ps body) = let h = params_sized ps (mark CloseParen ∷ body_spelled body) in let k = body_sized body in Prim.omega (arith, h, k)
form_sized (loads s l) = let h = items_sized l (mark CloseParen ∷ []) in Prim.omega (arith, h)

-- what has a form is read
pub is_read_form : (ts : List Token) (f : Form) → SpellsForm ts f → form_reads ts ≡ Some f
is_read_form ts f h = ap form_reads h.whole ∙ form_read f h.is_form (suc (length (form_spelled f))) (form_sized f)

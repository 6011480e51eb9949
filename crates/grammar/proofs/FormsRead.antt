-- What spells a form of a logical line is read, and so a line has at most one form.
use Rattle.std.proofs.Common.{◌≡◌, ℕ, zero, suc, ◌+◌, ◌≤◌, List, [], ◌∷◌, Some, None, refl, ap, ◌∙◌, arith}
use Rattle.lexer.specs.declared.token.Word.TheVariants.{Not, Return}
use Rattle.lexer.specs.declared.token.Mark.TheVariants.{CloseParen, Comma, Assign, AddAssign}
use Rattle.lexer.specs.declared.layout.Bracket.TheVariants.{Round}
use Rattle.lexer.specs.Tokens.{Token, name, word, mark}
use Rattle.grammar.specs.Tree.{Expr, identifier, index}
use Rattle.grammar.specs.Levels.{IsTree}
use Rattle.grammar.specs.Spelling.{spelled, names_spelled}
use Rattle.grammar.specs.Front.{next, behind_close, behind_comma, behind_colon}
use Rattle.grammar.specs.Reading.{Parse, then_read, whole, read, if_last}
use Rattle.grammar.specs.Statements.{Listed, alone, followed, AreListed, listed_spelled, Simple, assigns, assigns_at, increases, increases_at, evaluates, passes, breaks, continues, returns, returns_list, IsSimple, simple_spelled, Body, block, inline, IsBody, body_spelled, Param, required, optional, Item, Commas, none_more, last_one, and_more, commas_spelled, Form, loads, simple, defines, if_head, elif_head, else_head, for_head}
use Rattle.grammar.specs.FormReading.{then_found, Lead, no_tokens, leads, no_word, lead, then_at, names_to, after_one, commas_step, commas, assign_to, increase, listed_step, listed, names_step, target_step, simple_word, simple_lead, simple_at, inline_step, body_at}
use Rattle.grammar.proofs.FrontLemmas.{tail, Ends, front, front_unclosed}
use Rattle.grammar.proofs.Sizes.{size}
use Rattle.grammar.proofs.Rungs.{inner}
use Rattle.grammar.proofs.Complete.{complete, level_some}

abbrev pub listed_size : Listed → ℕ
listed_size (alone a) = suc (size a)
listed_size (followed a l) = suc (size a + listed_size l)

abbrev pub simple_size : Simple → ℕ
simple_size (assigns x xs l) = suc (listed_size l)
simple_size (assigns_at f a l) = suc (size f + size a + listed_size l)
simple_size (increases x a) = suc (size a)
simple_size (increases_at f a b) = suc (size f + size a + size b)
simple_size (evaluates a) = suc (size a)
simple_size (returns_list l) = suc (listed_size l)
simple_size _ = 1

abbrev pub body_size : Body → ℕ
body_size block = 1
body_size (inline s) = simple_size s

abbrev pub param_size : Param → ℕ
param_size (required x) = 1
param_size (optional x a) = size a

abbrev pub item_size : Item → ℕ
item_size i = 1

abbrev pub commas_size : {A : Type 0} → (A → ℕ) → Commas A → ℕ
commas_size f none_more = 1
commas_size f (last_one a) = suc (f a)
commas_size f (and_more a l) = suc (f a + commas_size f l)

abbrev pub form_size : Form → ℕ
form_size (loads s l) = commas_size item_size l
form_size (simple s) = simple_size s
form_size (defines x ps body) = commas_size param_size ps + body_size body
form_size (if_head a body) = size a + body_size body
form_size (elif_head a body) = size a + body_size body
form_size (else_head body) = body_size body
form_size (for_head x xs a body) = size a + body_size body

-- an expression before what isn't part of it
pub got : (t : Expr) → IsTree t → (n : ℕ) (ts : List Token) → size t ≤ n → tail ts ≡ 0 → read n whole (spelled t ts) ≡ Some (t, ts)
got t h n ts small low = inner t (complete t h) whole (level_some t) n ts small (Prim.omega (arith, low))

abbrev LeadFront : Lead → List Token → Type 0
LeadFront no_word ts = Unit {0}
LeadFront no_tokens ts = front ts ≡ 0
LeadFront (leads w u) ts = front ts ≡ 0

lead_front : (ts : List Token) → LeadFront (lead ts) ts
unfolding lead front
lead_front [] = refl
lead_front (word Not ∷ ts) = tt
lead_front (word w ∷ ts) = refl
lead_front _ = tt

-- a line that begins with an expression begins with no other word
lead_none : (ts : List Token) → 1 ≤ front ts → lead ts ≡ no_word
lead_none ts h = go (lead ts) (lead_front ts)
  where
    go : (r : Lead) → LeadFront r ts → r ≡ no_word
    go no_word e = refl
    go no_tokens e = absurd (Prim.omega (arith, e, h))
    go (leads w u) e = absurd (Prim.omega (arith, e, h))

pub begins : (t : Expr) → IsTree t → (ts : List Token) → lead (spelled t ts) ≡ no_word
begins t h ts = lead_none (spelled t ts) (let k = (complete t h).fronted ts in let j = level_some t in Prim.omega (arith, k, j))

names_to_found : (xs : List (List ℕ)) (ts : List Token) → names_to (names_spelled xs (mark Assign ∷ ts)) ≡ Some (xs, ts)
unfolding names_to
names_to_found [] ts = refl
names_to_found (x ∷ xs) ts = ap (λ r. elim r [ None ↦ None | Some r ↦ Some (x ∷ r.0, r.1) ]) (names_to_found xs ts)

listed_read : (l : Listed) → AreListed l → (n k : ℕ) → listed_size l ≤ n → listed_size l ≤ k → listed (read n) n k (listed_spelled l) ≡ Some l
unfolding listed then_at next
listed_read (alone a) h n zero small fits = absurd (Prim.omega (arith, fits))
listed_read (followed a l) h n zero small fits = absurd (Prim.omega (arith, fits))
listed_read (alone a) h n (suc k) small fits = ap (λ r. then_found r (λ r. listed_step (read n) n (listed (read n) n k) r.0 (then_at r.1))) (got a h n [] (Prim.omega (arith, small)) refl)
listed_read (followed a l) h n (suc k) small fits =
    ap (λ r. then_found r (λ r. listed_step (read n) n (listed (read n) n k) r.0 (then_at r.1))) (got a h.0 n (mark Comma ∷ listed_spelled l) (Prim.omega (arith, small)) refl)
    ∙ ap (λ r. then_found r (λ l. Some (followed a l))) (listed_read l h.1 n k (Prim.omega (arith, small)) (Prim.omega (arith, fits)))

-- a simple statement that begins with an expression
first_read : (t : Expr) → IsTree t → (n : ℕ) (u : List Token) → size t ≤ n → tail u ≡ 0 → simple_at (read n) n (spelled t u) ≡ target_step (read n) n t u (then_at u)
unfolding simple_at
first_read t h n u small low =
    ap (simple_lead (read n) n (spelled t u)) (begins t h u)
    ∙ ap (λ r. then_found r (λ r. target_step (read n) n r.0 r.1 (then_at r.1))) (got t h n u small low)

-- with its names, or its index
names_read : (x : List ℕ) (xs : List (List ℕ)) (l : Listed) → AreListed l → (n : ℕ) → suc (listed_size l) ≤ n → simple_at (read n) n (name x ∷ names_spelled xs (mark Assign ∷ listed_spelled l)) ≡ Some (assigns x xs l)
unfolding then_at next
names_read x [] l h n small =
    first_read (identifier x) tt n (mark Assign ∷ listed_spelled l) (Prim.omega (arith, small)) refl
    ∙ ap (λ r. then_found r (assign_to (identifier x) [])) (listed_read l h n n (Prim.omega (arith, small)) (Prim.omega (arith, small)))
names_read x (y ∷ ys) l h n small =
    first_read (identifier x) tt n (names_spelled (y ∷ ys) (mark Assign ∷ listed_spelled l)) (Prim.omega (arith, small)) refl
    ∙ ap (names_step (read n) n (identifier x)) (names_to_found (y ∷ ys) (listed_spelled l))
    ∙ ap (λ r. then_found r (assign_to (identifier x) (y ∷ ys))) (listed_read l h n n (Prim.omega (arith, small)) (Prim.omega (arith, small)))

returns_read : (l : Listed) → AreListed l → (n : ℕ) → suc (listed_size l) ≤ n → (u : List Token) → u ≡ listed_spelled l → 1 ≤ front u → simple_word (read n) n Return u ≡ Some (returns_list l)
unfolding front
returns_read l h n small [] e some = absurd (Prim.omega (arith, some))
returns_read l h n small (t ∷ ts) e some = ap (λ v. then_found (listed (read n) n n v) (λ l. Some (returns_list l))) e ∙ ap (λ r. then_found r (λ l. Some (returns_list l))) (listed_read l h n n (Prim.omega (arith, small)) (Prim.omega (arith, small)))

listed_front : (l : Listed) → AreListed l → 1 ≤ front (listed_spelled l)
listed_front (alone a) h = let k = (complete a h).fronted [] in let j = level_some a in Prim.omega (arith, k, j)
listed_front (followed a l) h = let k = (complete a h.0).fronted (mark Comma ∷ listed_spelled l) in let j = level_some a in Prim.omega (arith, k, j)

pub simple_read : (s : Simple) → IsSimple s → (n : ℕ) → simple_size s ≤ n → simple_at (read n) n (simple_spelled s) ≡ Some s
unfolding simple_at lead then_at next
simple_read (assigns x xs l) h n small = names_read x xs l h n small
simple_read (assigns_at f a l) h n small =
    first_read (index f a) h.0 n (mark Assign ∷ listed_spelled l) (Prim.omega (arith, small)) refl
    ∙ ap (λ r. then_found r (assign_to (index f a) [])) (listed_read l h.1 n n (Prim.omega (arith, small)) (Prim.omega (arith, small)))
simple_read (increases x a) h n small =
    first_read (identifier x) tt n (mark AddAssign ∷ spelled a []) (Prim.omega (arith, small)) refl
    ∙ ap (λ r. then_found (if_last r) (increase (identifier x))) (got a h n [] (Prim.omega (arith, small)) refl)
simple_read (increases_at f a b) h n small =
    first_read (index f a) h.0 n (mark AddAssign ∷ spelled b []) (Prim.omega (arith, small)) refl
    ∙ ap (λ r. then_found (if_last r) (increase (index f a))) (got b h.1 n [] (Prim.omega (arith, small)) refl)
simple_read (evaluates a) h n small = first_read a h n [] (Prim.omega (arith, small)) refl
simple_read passes h n small = refl
simple_read breaks h n small = refl
simple_read continues h n small = refl
simple_read returns h n small = refl
simple_read (returns_list l) h n small = returns_read l h n small (listed_spelled l) refl (listed_front l h)

pub body_read : (b : Body) → IsBody b → (n : ℕ) → body_size b ≤ n → body_at (read n) n (body_spelled b) ≡ Some b
unfolding behind_colon simple_at lead
body_read block h n small = refl
body_read (inline s) h n small = ap (inline_step (read n) n (simple_spelled s)) (simple_read s h n small)

-- things with commas are read, where each of them is
pub commas_read : {A : Type 0} (spell : A → List Token → List Token) (sized : A → ℕ) (Is : A → Type 0) (one : Parse A) (n : ℕ)
    → ((a : A) → Is a → (ts : List Token) → sized a ≤ n → Ends ts → one (spell a ts) ≡ Some (a, ts))
    → ((a : A) (ts : List Token) → 1 ≤ front (spell a ts))
    → (AreAll : Commas A → Type 0) → ((a : A) → AreAll (last_one a) → Is a) → ((a : A) (l : Commas A) → AreAll (and_more a l) → Is a × AreAll l)
    → (l : Commas A) → AreAll l → (k : ℕ) (ts : List Token) → commas_size sized l ≤ n → commas_size sized l ≤ k → commas one k (commas_spelled spell l (mark CloseParen ∷ ts)) ≡ Some (l, ts)
unfolding commas behind_close behind_comma next
commas_read spell sized Is one n each begin AreAll only first none_more are zero ts small fits = absurd (Prim.omega (arith, fits))
commas_read spell sized Is one n each begin AreAll only first none_more are (suc k) ts small fits = refl
commas_read spell sized Is one n each begin AreAll only first (last_one a) are zero ts small fits = absurd (Prim.omega (arith, fits))
commas_read spell sized Is one n each begin AreAll only first (last_one a) are (suc k) ts small fits =
    let u = mark CloseParen ∷ ts in
    ap (commas_step (commas one k) one (spell a u)) (front_unclosed Round (spell a u) (begin a u))
    ∙ ap (λ r. then_read r (λ a u. after_one (commas one k) a (behind_close Round u) (behind_comma u))) (each a (only a are) u (Prim.omega (arith, small)) (refl, refl))
commas_read spell sized Is one n each begin AreAll only first (and_more a l) are zero ts small fits = absurd (Prim.omega (arith, fits))
commas_read spell sized Is one n each begin AreAll only first (and_more a l) are (suc k) ts small fits =
    let u = commas_spelled spell l (mark CloseParen ∷ ts) in
    let parts = first a l are in
    ap (commas_step (commas one k) one (spell a (mark Comma ∷ u))) (front_unclosed Round (spell a (mark Comma ∷ u)) (begin a (mark Comma ∷ u)))
    ∙ ap (λ r. then_read r (λ a u. after_one (commas one k) a (behind_close Round u) (behind_comma u))) (each a parts.0 (mark Comma ∷ u) (Prim.omega (arith, small)) (refl, refl))
    ∙ ap (λ r. then_read r (λ l v. Some (and_more a l, v))) (commas_read spell sized Is one n each begin AreAll only first l parts.1 k ts (Prim.omega (arith, small)) (Prim.omega (arith, fits)))

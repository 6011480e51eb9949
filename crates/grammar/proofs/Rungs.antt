-- What is spelled is read, level by level: from what is read at one level to what is read at the looser ones.
use Rattle.std.proofs.Common.{◌≡◌, ℕ, zero, suc, ◌+◌, ◌-◌, ◌≤◌, true, List, Option, Some, None, refl, ap, ◌∙◌, arith, inl, inr}
use Rattle.std.specs.Prelude.{◌==◌}
use Rattle.std.proofs.lemmas.Bool.{eq-eqb}
use Rattle.std.proofs.lemmas.Bool.Decides.{eqb_tells}
use Rattle.lexer.specs.Tokens.{Token}
use Rattle.grammar.specs.Tree.{Operator, Sign, Expr, operation}
use Rattle.grammar.specs.Levels.{operator_level, sign_level, level}
use Rattle.grammar.specs.Spelling.{spelled, operator_spelled}
use Rattle.grammar.specs.Front.{Next, operator, dot_next, index_next, call_next, if_next, assign_next, nothing, next, sign_at, keyword_at}
use Rattle.grammar.specs.Reading.{Parse, then_read, join_step, chain_step, chain, chained, Row, whole, operand, negated, opposed, row_level, suffix_step, suffixes, taken_step, prefix_step, prefix, if_step, atom, e9, e8, e7, e6, e5, e4, e3, e2, e1, read}
use Rattle.grammar.proofs.FrontLemmas.{tail_of, tail, Free, next_operator, front, front_sign, SignSpells, sign_sound}
use Rattle.grammar.proofs.Sizes.{size, size_some, turns_step, turns, turns_fewer, suffixes_in, suffixes_fewer, no_turns, differ}

-- what reads a level, with so many expressions inside
abbrev pub E9 : ℕ → Parse Expr
E9 n = e9 (read n) (suc n)

abbrev pub E8 : ℕ → Parse Expr
E8 n = e8 (read n) (suc n)

abbrev pub E7 : ℕ → Parse Expr
E7 n = e7 (read n) (suc n)

abbrev pub E6 : ℕ → Parse Expr
E6 n = e6 (read n) (suc n)

abbrev pub E5 : ℕ → Parse Expr
E5 n = e5 (read n) (suc n)

abbrev pub E4 : ℕ → Parse Expr
E4 n = e4 (read n) (suc n)

abbrev pub E3 : ℕ → Parse Expr
E3 n = e3 (read n) (suc n)

abbrev pub E2 : ℕ → Parse Expr
E2 n = e2 (read n) (suc n)

abbrev pub E1 : ℕ → Parse Expr
E1 n = e1 (read n) (suc n)

-- an expression is read whole, where nothing of its level goes on
abbrev pub Read : ℕ → (ℕ → Parse Expr) → Expr → Type 0
Read l p t = (n : ℕ) (ts : List Token) → size t ≤ suc n → suc (tail ts) ≤ l → p n (spelled t ts) ≡ Some (t, ts)

-- an expression is read, up to what a loop over operators still has to do
abbrev pub Chained : ℕ → (ℕ → Parse Expr) → Expr → Type 0
Chained l up t = (n k j : ℕ) (ts : List Token) → size t ≤ suc n → k ≡ turns l t + j → tail ts ≤ l → then_read (up n (spelled t ts)) (chain l (up n) k) ≡ chain l (up n) j t ts

-- the same of the loop over fields, indexes and calls
abbrev pub Suffixed : Expr → Type 0
Suffixed t = (n k j : ℕ) (ts : List Token) → size t ≤ suc n → k ≡ suffixes_in t + j → then_read (atom (read n) (suc n) (spelled t ts)) (suffixes (read n) (suc n) k) ≡ suffixes (read n) (suc n) j t ts

-- a loop stops where nothing of its level goes on
pub chain_stop : (l : ℕ) (up : Parse Expr) (k : ℕ) (a : Expr) (ts : List Token) → suc (tail ts) ≤ l → chain l up k a ts ≡ Some (a, ts)
unfolding chain
chain_stop l up zero a ts h = refl
chain_stop l up (suc k) a ts h = go (next ts) h
  where
    go : (r : Next) → suc (tail_of r) ≤ l → chain_step l up (chain l up k) a ts r ≡ Some (a, ts)
    go (operator o u) h = ap (join_step up (chain l up k) o a u ts) (differ (operator_level o) l (λ e. Prim.omega (arith, e, h)))
    go (dot_next u) h = refl
    go (index_next u) h = refl
    go (call_next u) h = refl
    go (if_next u) h = refl
    go (assign_next u) h = refl
    go nothing h = refl

pub suffixes_stop : (n k : ℕ) (f : Expr) (ts : List Token) → suc (tail ts) ≤ 9 → suffixes (read n) (suc n) k f ts ≡ Some (f, ts)
unfolding suffixes
suffixes_stop n zero f ts h = refl
suffixes_stop n (suc k) f ts h = go (next ts) h
  where
    go : (r : Next) → suc (tail_of r) ≤ 9 → suffix_step (read n) (suc n) (suffixes (read n) (suc n) k) f ts r ≡ Some (f, ts)
    go (operator o u) h = refl
    go (dot_next u) h = absurd (Prim.omega (arith, h))
    go (index_next u) h = absurd (Prim.omega (arith, h))
    go (call_next u) h = absurd (Prim.omega (arith, h))
    go (if_next u) h = refl
    go (assign_next u) h = refl
    go nothing h = refl

pub if_stop : (n : ℕ) (a : Expr) (ts : List Token) → suc (tail ts) ≤ 1 → if_step (read n) (suc n) a ts (next ts) ≡ Some (a, ts)
if_stop n a ts h = go (next ts) h
  where
    go : (r : Next) → suc (tail_of r) ≤ 1 → if_step (read n) (suc n) a ts r ≡ Some (a, ts)
    go (if_next u) h = absurd (Prim.omega (arith, h))
    go (operator o u) h = refl
    go (dot_next u) h = refl
    go (index_next u) h = refl
    go (call_next u) h = refl
    go (assign_next u) h = refl
    go nothing h = refl

-- an operator before a part is none of a looser level
pub prefix_up : (n l : ℕ) (up : Parse Expr) (ts : List Token) → suc l ≤ front ts → prefix (read n) (suc n) l up ts ≡ up ts
prefix_up n l up ts h = go (sign_at ts) (sign_sound ts)
  where
    go : (r : Option (Sign × List Token)) → SignSpells r ts → prefix_step (read n) (suc n) l up ts r ≡ up ts
    go None e = refl
    go (Some r) e =
        let same : front ts ≡ sign_level r.0 = ap front e ∙ front_sign r.0 r.1 in
        ap (taken_step (read n) (suc n) up r.0 r.1 ts) (differ (sign_level r.0) l (λ d. Prim.omega (arith, d, same, h)))

-- a loop that has made all its turns leaves the expression
pub chain_ends : (l : ℕ) (up : ℕ → Parse Expr) (t : Expr) (most n : ℕ) (ts : List Token) → Chained l up t → turns l t ≤ most → size t ≤ suc n → suc (tail ts) ≤ l → chained l (up n) most (spelled t ts) ≡ Some (t, ts)
chain_ends l up t most n ts h enough small stops =
    h n most (most - turns l t) ts small (Prim.omega (arith, enough)) (Prim.omega (arith, stops)) ∙ chain_stop l (up n) (most - turns l t) t ts stops

-- an expression of a tighter level begins the loop
pub chain_begins : (l : ℕ) (up : ℕ → Parse Expr) (t : Expr) → Read (suc l) up t → turns l t ≡ 0 → Chained l up t
chain_begins l up t h none n k j ts small e stops =
    let same : k ≡ j = Prim.omega (arith, e, none) in
    ap (λ r. then_read r (chain l (up n) k)) (h n ts small (Prim.omega (arith, stops))) ∙ ap (λ i. chain l (up n) i t ts) same

-- one turn of the loop
pub operation_chained : (l : ℕ) (up : ℕ → Parse Expr) (o : Operator) (a b : Expr) → operator_level o ≡ l → Chained l up a → Read (suc l) up b → Chained l up (operation o a b)
unfolding chain
operation_chained l up o a b at left right n k j ts small e stops =
    let u = spelled b ts in
    let us = operator_spelled o u in
    let taken : (operator_level o == l) ≡ true = eq-eqb (operator_level o) l at in
    let one : turns l (operation o a b) ≡ suc (turns l a) = ap (λ r. turns_step r (turns l a)) taken in
    let low : tail us ≡ operator_level o = ap tail_of (next_operator o u) in
    left n k (suc j) us (Prim.omega (arith, small)) (Prim.omega (arith, e, one)) (Prim.omega (arith, low, at))
    ∙ ap (chain_step l (up n) (chain l (up n) j) a us) (next_operator o u)
    ∙ ap (join_step (up n) (chain l (up n) j) o a u us) taken
    ∙ ap (λ r. then_read r (λ b. chain l (up n) j (operation o a b))) (right n ts (Prim.omega (arith, small)) (Prim.omega (arith, stops)))

-- what is to be shown of each form: that it is read at the level of its own
pub record Own (t : Expr) : Type 0 where
  pub top : level t ≤ 9
  pub fronted : (ts : List Token) → level t ≤ front (spelled t ts)
  pub unnamed : (ts : List Token) → Free ts → keyword_at (spelled t ts) ≡ None
  pub one : turns 5 t ≤ 1
  pub own9 : level t ≡ 9 → Suffixed t
  pub own8 : level t ≡ 8 → Read 8 E8 t
  pub own7 : level t ≡ 7 → Chained 7 E8 t
  pub own6 : level t ≡ 6 → Chained 6 E7 t
  pub own5 : level t ≡ 5 → Chained 5 E6 t
  pub own4 : level t ≡ 4 → Read 4 E4 t
  pub own3 : level t ≡ 3 → Chained 3 E4 t
  pub own2 : level t ≡ 2 → Chained 2 E3 t
  pub own1 : level t ≡ 1 → Read 1 E1 t

-- and what follows: that it is read at each level that takes it
pub record Facts (t : Expr) : Type 0 where
  pub fronted : (ts : List Token) → level t ≤ front (spelled t ts)
  pub unnamed : (ts : List Token) → Free ts → keyword_at (spelled t ts) ≡ None
  pub s9 : 9 ≤ level t → Suffixed t
  pub r8 : 8 ≤ level t → Read 8 E8 t
  pub c7 : 7 ≤ level t → Chained 7 E8 t
  pub r7 : 7 ≤ level t → Read 7 E7 t
  pub c6 : 6 ≤ level t → Chained 6 E7 t
  pub r6 : 6 ≤ level t → Read 6 E6 t
  pub c5 : 5 ≤ level t → Chained 5 E6 t
  pub r5 : 5 ≤ level t → Read 5 E5 t
  pub r4 : 4 ≤ level t → Read 4 E4 t
  pub c3 : 3 ≤ level t → Chained 3 E4 t
  pub r3 : 3 ≤ level t → Read 3 E3 t
  pub c2 : 2 ≤ level t → Chained 2 E3 t
  pub r2 : 2 ≤ level t → Read 2 E2 t
  pub r1 : 1 ≤ level t → Read 1 E1 t

-- what holds of a level and above it holds from that level on
from : (l : ℕ) (t : Expr) (P : Type 0) → (level t ≡ l → P) → (suc l ≤ level t → P) → l ≤ level t → P
from l t P own above h = elim (eqb_tells (level t) l) [ inl e ↦ own e.1 | inr e ↦ above (more (level t) e.1 h) ]
  where
    more : (m : ℕ) → (m ≡ l → ⊥) → l ≤ m → suc l ≤ m
    more m ne h = Prim.omega (arith, ne, h)

read9 : (t : Expr) → Suffixed t → Read 9 E9 t
unfolding e9
read9 t h n ts small stops =
    let k = suffixes_fewer t in
    h n (suc n) (suc n - suffixes_in t) ts small (Prim.omega (arith, k, small)) ∙ suffixes_stop n (suc n - suffixes_in t) t ts stops

read8 : (t : Expr) → ((ts : List Token) → level t ≤ front (spelled t ts)) → 9 ≤ level t → Read 9 E9 t → Read 8 E8 t
unfolding e8
read8 t fronted high h n ts small stops =
    let k = fronted ts in
    prefix_up n 8 (E9 n) (spelled t ts) (Prim.omega (arith, k, high)) ∙ h n ts small (Prim.omega (arith, stops))

read7 : (t : Expr) → Chained 7 E8 t → Read 7 E7 t
unfolding e7
read7 t h n ts small stops = let k = turns_fewer 7 t in chain_ends 7 E8 t (suc n) n ts h (Prim.omega (arith, k, small)) small stops

read6 : (t : Expr) → Chained 6 E7 t → Read 6 E6 t
unfolding e6
read6 t h n ts small stops = let k = turns_fewer 6 t in chain_ends 6 E7 t (suc n) n ts h (Prim.omega (arith, k, small)) small stops

read5 : (t : Expr) → turns 5 t ≤ 1 → Chained 5 E6 t → Read 5 E5 t
unfolding e5
read5 t one h n ts small stops = chain_ends 5 E6 t 1 n ts h one small stops

read4 : (t : Expr) → ((ts : List Token) → level t ≤ front (spelled t ts)) → 5 ≤ level t → Read 5 E5 t → Read 4 E4 t
unfolding e4
read4 t fronted high h n ts small stops =
    let k = fronted ts in
    prefix_up n 4 (E5 n) (spelled t ts) (Prim.omega (arith, k, high)) ∙ h n ts small (Prim.omega (arith, stops))

read3 : (t : Expr) → Chained 3 E4 t → Read 3 E3 t
unfolding e3
read3 t h n ts small stops = let k = turns_fewer 3 t in chain_ends 3 E4 t (suc n) n ts h (Prim.omega (arith, k, small)) small stops

read2 : (t : Expr) → Chained 2 E3 t → Read 2 E2 t
unfolding e2
read2 t h n ts small stops = let k = turns_fewer 2 t in chain_ends 2 E3 t (suc n) n ts h (Prim.omega (arith, k, small)) small stops

read1 : (t : Expr) → Read 2 E2 t → Read 1 E1 t
unfolding e1
read1 t h n ts small stops =
    ap (λ r. then_read r (λ a u. if_step (read n) (suc n) a u (next u))) (h n ts small (Prim.omega (arith, stops))) ∙ if_stop n t ts stops

-- from the own level of a form down to the loosest
pub facts : (t : Expr) → Own t → Facts t
facts t o =
    let r8 = from 8 t (Read 8 E8 t) o.own8 (λ h. read8 t o.fronted h (read9 t (o.own9 (nine h)))) in
    let c7 = from 7 t (Chained 7 E8 t) o.own7 (λ h. chain_begins 7 E8 t (r8 h) (no_turns 7 t h)) in
    let r7 : 7 ≤ level t → Read 7 E7 t = λ h. read7 t (c7 h) in
    let c6 = from 6 t (Chained 6 E7 t) o.own6 (λ h. chain_begins 6 E7 t (r7 h) (no_turns 6 t h)) in
    let r6 : 6 ≤ level t → Read 6 E6 t = λ h. read6 t (c6 h) in
    let c5 = from 5 t (Chained 5 E6 t) o.own5 (λ h. chain_begins 5 E6 t (r6 h) (no_turns 5 t h)) in
    let r5 : 5 ≤ level t → Read 5 E5 t = λ h. read5 t o.one (c5 h) in
    let r4 = from 4 t (Read 4 E4 t) o.own4 (λ h. read4 t o.fronted h (r5 h)) in
    let c3 = from 3 t (Chained 3 E4 t) o.own3 (λ h. chain_begins 3 E4 t (r4 h) (no_turns 3 t h)) in
    let r3 : 3 ≤ level t → Read 3 E3 t = λ h. read3 t (c3 h) in
    let c2 = from 2 t (Chained 2 E3 t) o.own2 (λ h. chain_begins 2 E3 t (r3 h) (no_turns 2 t h)) in
    let r2 : 2 ≤ level t → Read 2 E2 t = λ h. read2 t (c2 h) in
    record {
      fronted = o.fronted;
      unnamed = o.unnamed;
      s9 = λ h. o.own9 (nine h);
      r8 = r8;
      c7 = c7;
      r7 = r7;
      c6 = c6;
      r6 = r6;
      c5 = c5;
      r5 = r5;
      r4 = r4;
      c3 = c3;
      r3 = r3;
      c2 = c2;
      r2 = r2;
      r1 = from 1 t (Read 1 E1 t) o.own1 (λ h. read1 t (r2 h));
    }
  where
    nine : 9 ≤ level t → level t ≡ 9
    nine h = let k = o.top in Prim.omega (arith, h, k)

-- an expression inside of another one is read
pub inner : (t : Expr) → Facts t → (r : Row) → row_level r ≤ level t → (n : ℕ) (ts : List Token) → size t ≤ n → suc (tail ts) ≤ row_level r → read n r (spelled t ts) ≡ Some (t, ts)
unfolding read
inner t f r high zero ts small stops = let h = size_some t in absurd (Prim.omega (arith, h, small))
inner t f whole high (suc n) ts small stops = f.r1 high n ts small stops
inner t f operand high (suc n) ts small stops = f.r2 high n ts small stops
inner t f negated high (suc n) ts small stops = f.r4 high n ts small stops
inner t f opposed high (suc n) ts small stops = f.r8 high n ts small stops

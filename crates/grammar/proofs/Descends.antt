-- Reading with a limit on the depth gives the tree that is read without one, unless that is too deep.
use Rattle.std.proofs.Common.{ℕ, zero, suc, ◌-◌, ◌<◌, ◌≤◌, max, Bool, true, false, List, arith}
use Rattle.std.specs.Prelude.{◌==◌}
use Rattle.std.proofs.Math.Nat.{le-max_left, le-max_right}
use Rattle.grammar.specs.declared.parts.Row.{Row}
use Rattle.grammar.specs.declared.parts.Row.TheVariants.{Whole, Operand, Negated, Opposed}
use Rattle.lexer.specs.Tokens.{Token}
use Rattle.grammar.specs.Tree.{Operator, Expr, identifier, operation, index}
use Rattle.grammar.specs.Levels.{operator_level}
use Rattle.grammar.specs.Bare.{bare}
use Rattle.grammar.specs.Depth.{depth}
use Rattle.grammar.specs.Front.{Next, operator, dot_next, index_next, call_next, if_next, assign_next, nothing, next}
use Rattle.grammar.specs.Reading as R
use Rattle.grammar.specs.Reading.{Parse, then_read}
use Rattle.grammar.specs.FormReading.{then_found}
use Rattle.grammar.specs.Descent as D
use Rattle.grammar.specs.Ahead.{given, of_level}
use Rattle.grammar.specs.Descent.{Part}
use Rattle.grammar.proofs.Capped.{Capped, Deep, deep_then, bind, made, stays}

-- what is a name or an index as it is written
abbrev pub target : Expr → Bool
target (identifier x) = true
target (index f a) = true
target _ = false

-- what the reading with a limit gives of an expression
abbrev pub part_of : Expr → Part
part_of t = record { tree = bare t; depth = depth t; is_target = target t }

abbrev pub row_of : Row → R.Row
row_of Whole = R.whole
row_of Operand = R.operand
row_of Negated = R.negated
row_of Opposed = R.opposed

pub left_over : (a b r : ℕ) → r < a → r < suc (max a b)
left_over a b r lt = let m = le-max_left a b in Prim.omega (arith, lt, m)

pub right_over : (a b r : ℕ) → r - 1 < b → r < suc (max a b)
right_over a b r lt = let m = le-max_right a b in Prim.omega (arith, lt, m)

-- the two readings agree
abbrev pub Same : Parse Expr → (ℕ → Parse Part) → Type 0
Same p q = (r : ℕ) (ts : List Token) → Capped depth part_of r (p ts) (q r ts)

-- they agree where they go on from an expression
abbrev pub GoesOn : (Expr → Parse Expr) → (ℕ → Part → Parse Part) → Type 0
GoesOn p q = (r : ℕ) (a : Expr) (ts : List Token) → depth a ≤ r → Capped depth part_of r (p a ts) (q r (part_of a) ts)

-- what goes on from an expression is as deep
abbrev pub Deepens : (Expr → Parse Expr) → Type 0
Deepens p = (r : ℕ) (a : Expr) (ts : List Token) → r < depth a → Deep depth r (p a ts)

pub then_same : (p : Parse Expr) (q : ℕ → Parse Part) (f : Expr → Parse Expr) (g : ℕ → Part → Parse Part) → Same p q → GoesOn f g → Deepens f
    → (r : ℕ) (ts : List Token) → Capped depth part_of r (then_read (p ts) f) (then_read (q r ts) (g r))
then_same p q f g s h k r ts = bind depth part_of r depth part_of r (p ts) (q r ts) f (g r) (s r ts) (λ a u le. h r a u le) (λ a u lt. k r a u lt)

join_deepens : (up : Parse Expr) (more : Expr → Parse Expr) → Deepens more → (o : Operator) (u : List Token) (b : Bool) → Deepens (λ a ts. R.join_step up more o a u ts b)
join_deepens up more h o u true r a ts lt = deep_then depth r (up u) (λ b. more (operation o a b)) (λ b v. h r (operation o a b) v (left_over (depth a) (depth b) r lt))
join_deepens up more h o u false r a ts lt = lt

chain_step_deepens : (l : ℕ) (up : Parse Expr) (more : Expr → Parse Expr) → Deepens more → (n : Next) → Deepens (λ a ts. R.chain_step l up more a ts n)
chain_step_deepens l up more h (operator o u) r a ts lt = join_deepens up more h o u (operator_level o == l) r a ts lt
chain_step_deepens l up more h (dot_next u) r a ts lt = lt
chain_step_deepens l up more h (index_next u) r a ts lt = lt
chain_step_deepens l up more h (call_next u) r a ts lt = lt
chain_step_deepens l up more h (if_next u) r a ts lt = lt
chain_step_deepens l up more h (assign_next u) r a ts lt = lt
chain_step_deepens l up more h nothing r a ts lt = lt

pub chain_deepens : (l : ℕ) (up : Parse Expr) (k : ℕ) → Deepens (R.chain l up k)
unfolding R.chain
chain_deepens l up zero r a ts lt = lt
chain_deepens l up (suc k) r a ts lt = chain_step_deepens l up (R.chain l up k) (chain_deepens l up k) (next ts) r a ts lt

operated_on : (more : Expr → Parse Expr) (more' : ℕ → Part → Parse Part) → GoesOn more more' → Deepens more → (o : Operator) (a b : Expr) (v : List Token) (r : ℕ)
    → Capped depth part_of r (more (operation o a b) v) (then_found (D.operated r o (part_of a) (part_of b)) (λ c. more' r c v))
operated_on more more' h k o a b v r =
    made depth part_of r (max (depth a) (depth b)) (part_of (operation o a b)) (more (operation o a b) v) (λ c. more' r c v)
    (λ lt. h r (operation o a b) v lt)
    (λ le. k r (operation o a b) v (Prim.omega (arith, le)))

join_same : (up : Parse Expr) (up' : ℕ → Parse Part) → Same up up' → (more : Expr → Parse Expr) (more' : ℕ → Part → Parse Part) → GoesOn more more' → Deepens more
    → (o : Operator) (u : List Token) (b : Bool) (r : ℕ) (a : Expr) (ts : List Token) → depth a ≤ r
    → Capped depth part_of r (R.join_step up more o a u ts b) (D.join_step up' (more' r) r (part_of a) (given b (o, u)) ts)
join_same up up' s more more' h k o u true r a ts le =
    bind depth part_of (r - 1) depth part_of r (up u) (up' (r - 1) u) (λ b. more (operation o a b)) (λ b v. then_found (D.operated r o (part_of a) b) (λ c. more' r c v)) (s (r - 1) u)
    (λ b v lb. operated_on more more' h k o a b v r)
    (λ b v lb. k r (operation o a b) v (right_over (depth a) (depth b) r lb))
join_same up up' s more more' h k o u false r a ts le = stays depth part_of r a ts le

pub chain_step_same : (l : ℕ) (up : Parse Expr) (up' : ℕ → Parse Part) → Same up up' → (more : Expr → Parse Expr) (more' : ℕ → Part → Parse Part) → GoesOn more more' → Deepens more
    → (n : Next) (r : ℕ) (a : Expr) (ts : List Token) → depth a ≤ r
    → Capped depth part_of r (R.chain_step l up more a ts n) (D.join_step up' (more' r) r (part_of a) (of_level l n) ts)
chain_step_same l up up' s more more' h k (operator o u) r a ts le = join_same up up' s more more' h k o u (operator_level o == l) r a ts le
chain_step_same l up up' s more more' h k (dot_next u) r a ts le = stays depth part_of r a ts le
chain_step_same l up up' s more more' h k (index_next u) r a ts le = stays depth part_of r a ts le
chain_step_same l up up' s more more' h k (call_next u) r a ts le = stays depth part_of r a ts le
chain_step_same l up up' s more more' h k (if_next u) r a ts le = stays depth part_of r a ts le
chain_step_same l up up' s more more' h k (assign_next u) r a ts le = stays depth part_of r a ts le
chain_step_same l up up' s more more' h k nothing r a ts le = stays depth part_of r a ts le

pub chain_same : (l : ℕ) (up : Parse Expr) (up' : ℕ → Parse Part) → Same up up' → (k : ℕ) → GoesOn (R.chain l up k) (λ r. D.chain l up' r k)
unfolding R.chain D.chain
chain_same l up up' s zero r a ts le = stays depth part_of r a ts le
chain_same l up up' s (suc k) r a ts le = chain_step_same l up up' s (R.chain l up k) (λ r. D.chain l up' r k) (chain_same l up up' s k) (chain_deepens l up k) (next ts) r a ts le

pub chained_same : (l : ℕ) (up : Parse Expr) (up' : ℕ → Parse Part) → Same up up' → (k : ℕ) (r : ℕ) (ts : List Token) → Capped depth part_of r (R.chained l up k ts) (then_read (up' r ts) (D.chain l up' r k))
chained_same l up up' s k r ts = then_same up up' (R.chain l up k) (λ r. D.chain l up' r k) s (chain_same l up up' s k) (chain_deepens l up k) r ts

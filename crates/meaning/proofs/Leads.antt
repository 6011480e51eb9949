-- What a run leads to.
use Rattle.std.proofs.Common.{◌≡◌, ℕ, zero, suc, ◌+◌, Bool, true, false, if◌then◌else◌, [], ◌∷◌, ◌++◌, length, Some, refl, sym, ap, ◌∙◌, arith}
use Rattle.meaning.specs.Operations.{FunctionId, Operations}
use Rattle.meaning.specs.Outcome.{Slots, Outcome, done, fault, Effect, then_do, Here}
use Rattle.meaning.specs.Instructions.{Instruction, Codes}
use Rattle.meaning.specs.Machine.{Config, Next, more, doing, choose}
use Rattle.meaning.specs.Performing.{performs, place, fetched, step, after, run, run_from}
use Rattle.meaning.specs.ExpressionCode.{Lines}

-- for each count of instructions from b there is one from a that ends alike
pub record Leads {S V K : Type 0} (ops : Operations S V K) (codes : Codes) (a b : Next S V K) : Type 0 where
  pub by : (k : ℕ) → (j : ℕ) × (run_from ops codes j a ≡ run_from ops codes k b)

-- leads to what an outcome goes on with
pub record Gives {S V K : Type 0} (ops : Operations S V K) (codes : Codes) (A : Type 0) (a : Next S V K) (o : Outcome S V K A) (k : A → Slots V → S → Next S V K) : Type 0 where
  pub by : Leads ops codes a (doing o k)

-- what an outcome gives
abbrev pub Always : {S V K A : Type 0} → (A → Type 0) → Outcome S V K A → Type 0
Always P (done a l s) = P a
Always P (fault e) = Unit {0}

pub always_then : {S V K A B : Type 0} (P : B → Type 0) (o : Outcome S V K A) (f : A → Effect S V K B) →
    ((x : A) (l : Slots V) (s : S) → Always P (f x l s)) → Always P (then_do o f)
always_then P (done a l s) f h = h a l s
always_then P (fault e) f h = tt

pub always_as : {S V K A : Type 0} (P Q : A → Type 0) (o : Outcome S V K A) → ((x : A) → P x → Q x) → Always P o →
    Always Q o
always_as P Q (done a l s) f h = f a h
always_as P Q (fault e) f h = tt

-- where the next instruction is run, if it has this line
abbrev instruction_here : {S V : Type 0} → Config S V → ℕ → Here
instruction_here c at = record { file = c.top.fn.file; at = at; active = c.active }

module _ {S V K : Type 0} {ops : Operations S V K} {codes : Codes} where
  pub stays : {a : Next S V K} → Leads ops codes a a
  stays = record { by = λ k. (k, refl) }

  pub same : {a b : Next S V K} → a ≡ b → Leads ops codes a b
  same e = record { by = λ k. (k, ap (run_from ops codes k) e) }

  pub goes_on : {a b c : Next S V K} → Leads ops codes a b → Leads ops codes b c → Leads ops codes a c
  goes_on l m = record { by = λ k. let y = m.by k in let x = l.by y.0 in (x.0, x.1 ∙ y.1) }

  -- one instruction
  pub stepped : (c : Config S V) (at : ℕ) (i : Instruction) → place codes c.top.fn c.top.pc ≡ Some (at, i) →
      Leads ops codes (more c) (performs ops codes (instruction_here c at) i c.top c.below c.state)
  stepped c at i h = record { by = λ k. (suc k, ap (λ o. after (run ops codes k) (fetched ops codes o c)) h) }

  pub gives_from : {A : Type 0} {a b : Next S V K} {o : Outcome S V K A} {k : A → Slots V → S → Next S V K} →
      Leads ops codes a b → Gives ops codes A b o k → Gives ops codes A a o k
  gives_from l g = record { by = goes_on l g.by }

  -- what follows an outcome is run where it is done
  pub gives_then : {A B : Type 0} {a : Next S V K} {f : A → Effect S V K B} {k : A → Slots V → S → Next S V K} {m : B → Slots V → S → Next S V K} (o : Outcome S V K A) →
      Gives ops codes A a o k → ((x : A) (l : Slots V) (s : S) → Gives ops codes B (k x l s) (f x l s) m) →
      Gives ops codes B a (then_do o f) m
  gives_then (done x l s) g h = gives_from g.by (h x l s)
  gives_then (fault e) g h = record { by = g.by }

  -- the same, where something is known of each value
  pub gives_all : {A B : Type 0} {a : Next S V K} {f : A → Effect S V K B} {k : A → Slots V → S → Next S V K} {m : B → Slots V → S → Next S V K} (P : A → Type 0)
      (o : Outcome S V K A) → Always P o → Gives ops codes A a o k →
      ((x : A) (l : Slots V) (s : S) → P x → Gives ops codes B (k x l s) (f x l s) m) →
      Gives ops codes B a (then_do o f) m
  gives_all P (done x l s) p g h = gives_from g.by (h x l s p)
  gives_all P (fault e) p g h = record { by = g.by }

  -- another way on, where both come to the same
  pub gives_as : {A : Type 0} {a : Next S V K} {k m : A → Slots V → S → Next S V K} (o : Outcome S V K A) →
      Gives ops codes A a o k → ((x : A) (l : Slots V) (s : S) → Leads ops codes (k x l s) (m x l s)) →
      Gives ops codes A a o m
  gives_as (done x l s) g h = record { by = goes_on g.by (h x l s) }
  gives_as (fault e) g h = record { by = g.by }

  -- one of two, by a test that both sides make
  pub gives_if : {A : Type 0} (t : Bool) (a b : Next S V K) (m n : Effect S V K A) (l : Slots V) (s : S)
      (k : A → Slots V → S → Next S V K) →
      Gives ops codes A a (m l s) k → Gives ops codes A b (n l s) k → Gives ops codes A (choose t a b) ((if t then m else n) l s) k
  gives_if true a b m n l s k g h = g
  gives_if false a b m n l s k g h = h

-- two places whose next instructions do the same lead to the same, by how many instructions are left
module _ {S V K : Type 0} (ops : Operations S V K) (codes : Codes) (c d : Config S V) (e : step ops codes c ≡ step ops codes d) where
  steps_counted : (k : ℕ) → (j : ℕ) × (run_from ops codes j (more c) ≡ run_from ops codes k (more d))
  steps_counted zero = (0, refl)
  steps_counted (suc k) = (suc k, ap (after (run ops codes k)) e)

  pub steps_alike : Leads ops codes (more c) (more d)
  steps_alike = record { by = steps_counted }

-- these instructions stand in a function from one place to another
abbrev pub Stands : Codes → FunctionId → ℕ → Lines → ℕ → Type 0
Stands codes fn pc [] pc' = pc ≡ pc'
Stands codes fn pc (i ∷ is) pc' = (place codes fn pc ≡ Some i) × Stands codes fn (suc pc) is pc'

pub halves : (codes : Codes) (fn : FunctionId) (pc pc' : ℕ) (a b : Lines) → Stands codes fn pc (a ++ b) pc' →
    (m : ℕ) × Stands codes fn pc a m × Stands codes fn m b pc'
halves codes fn pc pc' [] b h = (pc, refl, h)
halves codes fn pc pc' (i ∷ a) b h = let r = halves codes fn (suc pc) pc' a b h.1 in (r.0, (h.0, r.1), r.2)

pub ends_at : (codes : Codes) (fn : FunctionId) (pc pc' : ℕ) (a : Lines) → Stands codes fn pc a pc' →
    pc' ≡ pc + length a
ends_at codes fn pc pc' [] h = let e : pc ≡ pc + 0 = omega arith in sym h ∙ e
ends_at codes fn pc pc' (i ∷ a) h = let r = ends_at codes fn (suc pc) pc' a h.1 in omega (arith, r)

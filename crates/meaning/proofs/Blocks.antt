-- The code of a statement ends as it means.
use Rattle.std.proofs.Common.{◌≡◌, ℕ, suc, ◌+◌, List, [], ◌∷◌, ◌++◌, length, Option, Some, None, refl, sym, ap, ◌∙◌, subst, arith}
use Rattle.meaning.specs.Instructions as instr
use Rattle.program_tree.specs.Resolved.{Term, Statement, load, assign, assign_item, add_to, add_to_item, evaluate, pass, break_loop, continue_loop, give_back, branch, loop, define, Branches, no_branches, a_branch, Steps, no_steps, step}
use Rattle.meaning.specs.Names.{Binding, Loaded}
use Rattle.meaning.specs.Operations.{FunctionId}
use Rattle.meaning.specs.Outcome.{Slots, Outcome, Effect, ◌>>=◌, pure, act, change, Here}
use Rattle.meaning.specs.Functions.{Files, function_name}
use Rattle.meaning.specs.Expressions.{Invoke, set, read, assigned, eval, evals}
use Rattle.meaning.specs.Statements.{Doing, End, next, after_step, loop_turns, imports, given_back, exec, branches, block}
use Rattle.meaning.specs.Instructions.{Source, Instruction, code_name}
use Rattle.meaning.specs.Machine.{Walk, Next, doing, returning, outer, all_ended}
use Rattle.meaning.specs.Performing.{performs}
use Rattle.meaning.specs.ExpressionCode.{Lines, source_of, turn_code, count, set_code, expr_code, exprs_code}
use Rattle.meaning.specs.StatementCode.{imports_code, given_code, back_code, stmt_code, branches_code, block_code}
use Rattle.meaning.proofs.Leads.{Gives, stays, same, stepped, gives_then, gives_all, gives_as}
use Rattle.meaning.proofs.OneStep.{Site, config, onto, taken, Calls, here_at, frame, now, At, cut, one, op, arrived, read_runs, set_runs, assign_runs}
use Rattle.meaning.proofs.Forms.{IsFrom, either_runs, length_of}
use Rattle.meaning.proofs.Terms.{expr_runs, exprs_run, is_from}
use Rattle.meaning.proofs.Counts.{items_counted}
use Rattle.meaning.proofs.Loops.{ending, to_next, to_left, skips_ending, loops_run, step_ends}

module _ {S V K : Type 0} (site : Site S V K) (invoke : Invoke S V K) (calls : Calls site.ops site.codes site.active invoke) (files : Files) (names : (f : FunctionId) → code_name site.codes f ≡ function_name files f) where
  abbrev at_now : ℕ → Slots V → List V → List (Walk V) → S → Next S V K
  at_now pc l os ws s = now site pc l os [] ws s

  abbrev here : ℕ → Here
  here at = here_at site at

  abbrev Goes : {A : Type 0} → Next S V K → Outcome S V K A → (A → Slots V → S → Next S V K) → Type 0
  Goes {A} a o k = Gives site.ops site.codes A a o k

  abbrev Stood : ℕ → Lines → ℕ → Type 0
  Stood pc is pc' = At site pc is pc'

  abbrev split : (pc pc' : ℕ) (a b : Lines) → Stood pc (a ++ b) pc' → (m : ℕ) × Stood pc a m × Stood m b pc'
  split pc pc' a b h = cut site pc pc' a b h

  abbrev done_at : ℕ → List (Walk V) → End V → Slots V → S → Next S V K
  done_at = ending site

  -- a value on top of others
  value_runs : (at : ℕ) (e : Term) (pc pc' : ℕ) (l : Slots V) (os : List V) (ws : List (Walk V)) (s : S) →
      Stood pc (expr_code at e) pc' →
      Goes (at_now pc l os ws s) (eval site.ops invoke e (here at) l s) (λ v l s. at_now pc' l (v ∷ os) ws s)
  value_runs at e pc pc' l os ws s h = expr_runs site invoke calls at e pc pc' l os [] ws s h

  -- one operation, that leaves these values
  acts : {A : Type 0} (at : ℕ) (i : Instruction) (pc pc' : ℕ) (l : Slots V) (os : List V) (ws : List (Walk V)) (s : S)
      (push : A → List V) (o : Outcome S V K A) → Stood pc ((at, i) ∷ []) pc' →
      performs site.ops site.codes (here at) i (frame site pc l os [] ws) site.below s ≡ doing o (λ a l s. at_now (suc pc) l (push a) ws s) →
      Goes (at_now pc l os ws s) o (λ a l s. at_now pc' l (push a) ws s)
  acts at i pc pc' l os ws s push o h e = op site at i pc pc' l os [] ws s push o h e

  sets : (at : ℕ) (b : Binding) (v : V) (pc pc' : ℕ) (l : Slots V) (ws : List (Walk V)) (s : S) →
      Stood pc (set_code at b ∷ []) pc' →
      Goes (at_now pc l (v ∷ []) ws s) (set site.ops (here at) b v l s) (λ _ l s. at_now pc' l [] ws s)
  sets at b v pc pc' l ws s h = set_runs site at b v pc pc' l [] [] ws s h

  imports_run : (at : ℕ) (m : List ℕ) (is : List Loaded) (pc pc' : ℕ) (l : Slots V) (ws : List (Walk V)) (s : S) →
      Stood pc (imports_code at m is) pc' →
      Goes (at_now pc l [] ws s) (imports site.ops (here at) m is l s) (λ _ l s. at_now pc' l [] ws s)
  imports_run at m [] pc pc' l ws s h = record { by = arrived site pc pc' l [] [] ws s h }
  imports_run at m (i ∷ is) pc pc' l ws s h =
      gives_then (act (here at) (site.ops.loaded site.fn.file m i.asked) l s) (acts at (instr.import m i.asked) pc (suc pc) l [] ws s (λ v. v ∷ []) (act (here at) (site.ops.loaded site.fn.file m i.asked) l s) (h.0, refl) refl) (λ v l s.
      gives_then (change (site.ops.set_loaded site.fn.file i.binds v) l s) (acts at (instr.store_loaded i.binds) (suc pc) (suc (suc pc)) l (v ∷ []) ws s (λ _. []) (change (site.ops.set_loaded site.fn.file i.binds v) l s) (h.1.0, refl) refl) (λ _ l s.
      imports_run at m is (suc (suc pc)) pc' l ws s h.1.1))

  given_runs : (at : ℕ) (e : Term) (q : Option Source) → IsFrom site at q (eval site.ops invoke e (here at)) →
      (pc pc' : ℕ) (l : Slots V) (ws : List (Walk V)) (s : S) → Stood pc (given_code at q (expr_code at e)) pc' →
      Goes (at_now pc l [] ws s) (eval site.ops invoke e (here at) l s) (λ v _ s. returning v site.below (outer site.active) (all_ended site.ops ws s))
  given_runs at e None m pc pc' l ws s h =
      let p = split pc pc' (expr_code at e) _ h in
      gives_as (eval site.ops invoke e (here at) l s) (value_runs at e pc p.0 l [] ws s p.1) (λ v l s.
      stepped (config site p.0 l (v ∷ []) [] ws s) at instr.give_back p.2.0)
  given_runs at e (Some q) m pc pc' l ws s h =
      subst (λ (n : Effect S V K V). Goes (at_now pc l [] ws s) (n l s) (λ v _ s. returning v site.below (outer site.active) (all_ended site.ops ws s))) (sym m) (
      record { by = stepped (config site pc l [] [] ws s) at (instr.give_back_from q) h.0 })

  back_runs : (at : ℕ) (o : Option Term) (pc pc' : ℕ) (l : Slots V) (ws : List (Walk V)) (s : S) →
      Stood pc (back_code at o) pc' →
      Goes (at_now pc l [] ws s) (given_back site.ops invoke o (here at) l s) (λ v _ s. returning v site.below (outer site.active) (all_ended site.ops ws s))
  back_runs at None pc pc' l ws s h =
      one site at instr.push_none pc l [] [] ws s h.0 refl (
      one site at instr.give_back (suc pc) l (site.ops.none ∷ []) [] ws s h.1.0 refl (record { by = stays }))
  back_runs at (Some e) pc pc' l ws s h = given_runs at e (source_of e) (is_from site invoke calls at e) pc pc' l ws s h

  mutual
    unfolding exec

    pub stmt_runs : (st : Statement) (at pc pc' : ℕ) (l : Slots V) (ws : List (Walk V)) (s : S) →
        Stood pc (stmt_code at st) pc' →
        Goes (at_now pc l [] ws s) (exec site.ops invoke files st (here at) l s) (done_at pc' ws)
    stmt_runs (load m is) at pc pc' l ws s h =
        gives_then (imports site.ops (here at) m is l s) (imports_run at m is pc pc' l ws s h) (λ _ l s. record { by = stays })
    stmt_runs (assign bs e) at pc pc' l ws s h =
        let p = split pc pc' (expr_code at e) _ h in
        gives_then (eval site.ops invoke e (here at) l s) (value_runs at e pc p.0 l [] ws s p.1) (λ v l s.
        gives_then (assigned site.ops (here at) bs v l s) (assign_runs site at bs v p.0 pc' l [] [] ws s p.2) (λ _ l s. record { by = stays }))
    stmt_runs (assign_item f a e) at pc pc' l ws s h =
        let p = split pc pc' (expr_code at e) _ h in
        let q = split p.0 pc' (expr_code at f) _ p.2 in
        let u = split q.0 pc' (expr_code at a) _ q.2 in
        gives_then (eval site.ops invoke e (here at) l s) (value_runs at e pc p.0 l [] ws s p.1) (λ v l s.
        gives_then (eval site.ops invoke f (here at) l s) (value_runs at f p.0 q.0 l (v ∷ []) ws s q.1) (λ b l s.
        gives_then (eval site.ops invoke a (here at) l s) (value_runs at a q.0 u.0 l (b ∷ v ∷ []) ws s u.1) (λ i l s.
        gives_then (act (here at) (site.ops.set_item b i v) l s) (acts at instr.set_item u.0 pc' l (i ∷ b ∷ v ∷ []) ws s (λ _. []) (act (here at) (site.ops.set_item b i v) l s) u.2 refl) (λ _ l s. record { by = stays }))))
    stmt_runs (add_to x e) at pc pc' l ws s h =
        let p = split (suc pc) pc' (expr_code at e) _ h.1 in
        gives_then (read site.ops (here at) x l s) (read_runs site at x pc (suc pc) l [] [] ws s (h.0, refl)) (λ a l s.
        gives_then (eval site.ops invoke e (here at) l s) (value_runs at e (suc pc) p.0 l (a ∷ []) ws s p.1) (λ b l s.
        gives_then (act (here at) (site.ops.increase a b) l s) (acts at instr.increase p.0 (suc p.0) l (b ∷ a ∷ []) ws s (λ v. v ∷ []) (act (here at) (site.ops.increase a b) l s) (p.2.0, refl) refl) (λ v l s.
        gives_then (set site.ops (here at) x v l s) (sets at x v (suc p.0) pc' l ws s p.2.1) (λ _ l s. record { by = stays }))))
    stmt_runs (add_to_item f a e) at pc pc' l ws s h =
        let p = split pc pc' (expr_code at f) _ h in
        let q = split p.0 pc' (expr_code at a) _ p.2 in
        let u = split (suc q.0) pc' (expr_code at e) _ q.2.1 in
        gives_then (eval site.ops invoke f (here at) l s) (value_runs at f pc p.0 l [] ws s p.1) (λ b l s.
        gives_then (eval site.ops invoke a (here at) l s) (value_runs at a p.0 q.0 l (b ∷ []) ws s q.1) (λ i l s.
        gives_then (act (here at) (site.ops.item b i) l s) (acts at instr.item_above q.0 (suc q.0) l (i ∷ b ∷ []) ws s (λ v. v ∷ i ∷ b ∷ []) (act (here at) (site.ops.item b i) l s) (q.2.0, refl) refl) (λ x l s.
        gives_then (eval site.ops invoke e (here at) l s) (value_runs at e (suc q.0) u.0 l (x ∷ i ∷ b ∷ []) ws s u.1) (λ y l s.
        gives_then (act (here at) (site.ops.increase x y) l s) (acts at instr.increase u.0 (suc u.0) l (y ∷ x ∷ i ∷ b ∷ []) ws s (λ v. v ∷ i ∷ b ∷ []) (act (here at) (site.ops.increase x y) l s) (u.2.0, refl) refl) (λ v l s.
        gives_then (act (here at) (site.ops.set_item b i v) l s) (acts at instr.set_added (suc u.0) pc' l (v ∷ i ∷ b ∷ []) ws s (λ _. []) (act (here at) (site.ops.set_item b i v) l s) u.2.1 refl) (λ _ l s. record { by = stays }))))))
    stmt_runs (evaluate e) at pc pc' l ws s h =
        let p = split pc pc' (expr_code at e) _ h in
        gives_then (eval site.ops invoke e (here at) l s) (value_runs at e pc p.0 l [] ws s p.1) (λ v l s.
        one site at instr.drop_top p.0 l (v ∷ []) [] ws s p.2.0 refl (record { by = arrived site (suc p.0) pc' l [] [] ws s p.2.1 }))
    stmt_runs pass at pc pc' l ws s h = record { by = arrived site pc pc' l [] [] ws s h }
    stmt_runs break_loop at pc pc' l ws s h = record { by = to_left site at pc l ws s h.0 }
    stmt_runs continue_loop at pc pc' l ws s h = record { by = to_next site at pc l ws s h.0 }
    stmt_runs (give_back o) at pc pc' l ws s h =
        gives_then (given_back site.ops invoke o (here at) l s) (back_runs at o pc pc' l ws s h) (λ v l s. record { by = stays })
    stmt_runs (branch bs other) at pc pc' l ws s h =
        branches_run bs (block_code other) (block site.ops invoke files other (here at)) at ws
        (λ pc pc' l s h. block_runs other at pc pc' l ws s h) pc pc' l s h
    stmt_runs (loop bs e a) at pc pc' l ws s h =
        let body = turn_code at bs ++ block_code a in
        let n = length body + 1 in
        let p = split pc pc' (expr_code at e) _ h in
        let q = split (suc p.0) pc' body _ p.2.1 in
        let u = split (suc p.0) q.0 (turn_code at bs) _ q.1 in
        let len = length_of site (suc p.0) q.0 body q.1 in
        let e1 : suc p.0 + n ≡ pc' = omega (arith, len, q.2.1) in
        gives_then (eval site.ops invoke e (here at) l s) (value_runs at e pc p.0 l [] ws s p.1) (λ v l s.
        one site at (instr.begin_walk n) p.0 l (v ∷ []) [] ws s p.2.0 refl (
        gives_then {k = λ vs l s. at_now (suc p.0) l [] (record { of = v; items = vs; head = suc p.0; end = suc p.0 + n } ∷ ws) s} (act (here at) (site.ops.begin v) l s) (record { by = stays }) (λ vs l s.
        gives_then (loop_turns site.ops (here at) (λ x. assigned site.ops (here at) bs x >>= λ _. block site.ops invoke files a (here at)) vs l s) (loops_run site at bs (block site.ops invoke files a (here at)) v (suc p.0) u.0 q.0 (suc p.0 + n) ws u.1 q.2.0 (λ l ws s.
        block_runs a at u.0 q.0 l ws s u.2) vs l s) (λ e l s.
        record { by = same (ap (λ p. done_at p ws e l (site.ops.end v s)) e1) }))))
    stmt_runs (define k x ps ds n body) at pc pc' l ws s h =
        let p = split pc pc' (exprs_code at ds) _ h in
        gives_all _ (evals site.ops invoke ds (here at) [] l s) (items_counted site.ops invoke (here at) ds l s) (exprs_run site invoke calls at ds [] pc p.0 l [] [] ws s p.1) (λ vs l s d.
        gives_then (act (here at) (site.ops.define (record { file = site.fn.file; number = k }) (function_name files (record { file = site.fn.file; number = k })) vs) l s) (acts at (instr.define k (count ds)) p.0 (suc p.0) l (onto vs []) ws s (λ v. v ∷ []) (act (here at) (site.ops.define (record { file = site.fn.file; number = k }) (function_name files (record { file = site.fn.file; number = k })) vs) l s) (p.2.0, refl) (taken vs [] (count ds) _ d ∙ ap (λ x. doing (act (here at) (site.ops.define (record { file = site.fn.file; number = k }) x vs) l s) (λ v l s. at_now (suc p.0) l (v ∷ []) ws s)) (names (record { file = site.fn.file; number = k })))) (λ v l s.
        gives_then {f = λ _. pure next} (change (site.ops.set_global site.fn.file x v) l s) (acts at (instr.store_global x) (suc p.0) pc' l (v ∷ []) ws s (λ _. []) (change (site.ops.set_global site.fn.file x v) l s) p.2.1 refl) (λ _ l s. record { by = stays })))

    branches_run : (bs : Branches) (c : Lines) (other : Doing S V K) (at : ℕ) (ws : List (Walk V)) →
        ((pc pc' : ℕ) (l : Slots V) (s : S) → Stood pc c pc' → Goes (at_now pc l [] ws s) (other l s) (done_at pc' ws)) →
        (pc pc' : ℕ) (l : Slots V) (s : S) → Stood pc (branches_code bs c) pc' →
        Goes (at_now pc l [] ws s) (branches site.ops invoke files bs other (here at) l s) (done_at pc' ws)
    branches_run no_branches c other at ws run pc pc' l s h = run pc pc' l s h
    branches_run (a_branch n e a bs) c other at ws run pc pc' l s h =
        let p = split pc pc' (expr_code n e) _ h in
        gives_then (eval site.ops invoke e (here n) l s) (value_runs n e pc p.0 l [] ws s p.1) (λ x l s.
        either_runs site n (λ pc. done_at pc ws) [] [] ws (skips_ending site n ws) (block_code a) (branches_code bs c)
        (block site.ops invoke files a (here at)) (branches site.ops invoke files bs other (here at))
        (λ pc pc' l s h. block_runs a at pc pc' l ws s h) (branches_run bs c other at ws run) x p.0 pc' l s p.2)

    pub block_runs : (b : Steps) (at pc pc' : ℕ) (l : Slots V) (ws : List (Walk V)) (s : S) →
        Stood pc (block_code b) pc' →
        Goes (at_now pc l [] ws s) (block site.ops invoke files b (here at) l s) (done_at pc' ws)
    block_runs no_steps at pc pc' l ws s h = record { by = arrived site pc pc' l [] [] ws s h }
    block_runs (step n st b) at pc pc' l ws s h =
        let p = split pc pc' (stmt_code n st) _ h in
        gives_then {f = after_step (block site.ops invoke files b (here at))} (exec site.ops invoke files st (here n) l s) (stmt_runs st n pc p.0 l ws s p.1) (
        step_ends site (block site.ops invoke files b (here at)) p.0 pc' ws (λ l s. block_runs b at p.0 pc' l ws s p.2))

-- One instruction, names, and calls.
use Rattle.std.proofs.Common.{◌≡◌, ℕ, suc, ◌+◌, ◌-◌, Bool, true, false, if◌then◌else◌, nat_eq, List, [], ◌∷◌, ◌++◌, length, map, Option, Some, None, refl, ap, ◌∙◌, subst, arith}
use Rattle.std.proofs.lemmas.Bool.{eqb-true}
use Rattle.std.proofs.lemmas.List.{append-nil}
use Rattle.std.specs.Prelude.{Ok, Err}
use Rattle.meaning.specs.Instructions as instr
use Rattle.program_tree.specs.Names.{Name}
use Rattle.meaning.specs.Names.{OwnSlots, Binding, slot, global, builtin}
use Rattle.meaning.specs.Operations.{arity, FunctionId, Callee, Arguments, Operations}
use Rattle.meaning.specs.Outcome.{Slots, Outcome, done, Final, Effect, raise, act, resumed, Here, put, cleared}
use Rattle.meaning.specs.Entry.{paired}
use Rattle.meaning.specs.Expressions.{Invoke, set, set_each, assigned, forget, calling, read}
use Rattle.meaning.specs.Instructions.{Instruction, Codes}
use Rattle.meaning.specs.Machine.{Walk, Frame, Config, Next, more, doing, choose, pops, finishing, start}
use Rattle.meaning.specs.Performing.{performs, place, spread}
use Rattle.meaning.specs.ExpressionCode.{Lines, read_code, set_code, assign_code, forget_code, call_code}
use Rattle.meaning.proofs.Leads.{Leads, Gives, Always, stays, same, stepped, gives_from, gives_then, gives_all, Stands, halves}

-- values on top of others, the last one at the top
abbrev pub onto : {V : Type 0} → List V → List V → List V
onto [] os = os
onto (v ∷ vs) os = onto vs (v ∷ os)

pub onto_last : {V : Type 0} (vs : List V) (v : V) (os : List V) → onto (vs ++ v ∷ []) os ≡ v ∷ onto vs os
onto_last [] v os = refl
onto_last (x ∷ xs) v os = onto_last xs v (x ∷ os)

module _ {S V K : Type 0} where
  pops_onto : (vs ws os : List V) (j n : ℕ) (go : List V → List V → Next S V K) → n ≡ length vs + j →
      pops n ws (onto vs os) go ≡ pops j (vs ++ ws) os go
  pops_onto [] ws os j n go e = let d : n ≡ j = omega (arith, e) in ap (λ m. pops m ws os go) d
  pops_onto (v ∷ vs) ws os j n go e = pops_onto vs ws (v ∷ os) (suc j) n go (omega (arith, e))

  pub taken : (vs os : List V) (n : ℕ) (go : List V → List V → Next S V K) → length vs ≡ n →
      pops n [] (onto vs os) go ≡ go vs os
  taken vs os n go e = pops_onto vs [] os 0 n go (omega (arith, e)) ∙ ap (λ ws. go ws os) (append-nil vs)

-- a call that the machine starts ends as the call means
pub record Calls {S V K : Type 0} (ops : Operations S V K) (codes : Codes) (active : List FunctionId) (invoke : Invoke S V K) : Type 0 where
  pub by : (file at : ℕ) (g : Callee V) (given : Arguments V) (below : List (Frame V)) (s : S) →
      Leads ops codes (start ops codes (record { file = file; at = at; active = active }) g given below s) (finishing below active (invoke (record { file = file; at = at; active = active }) g given s))

-- where instructions run: what they do, where they stand, the function, the functions that are active, and the frames below
pub record Site (S V K : Type 0) : Type 0 where
  pub ops : Operations S V K
  pub codes : Codes
  pub fn : FunctionId
  pub active : List FunctionId
  pub below : List (Frame V)

module _ {S V K : Type 0} (site : Site S V K) where
  abbrev pub here_at : ℕ → Here
  here_at at = record { file = site.fn.file; at = at; active = site.active }

  abbrev pub frame : ℕ → Slots V → List V → List (Callee V) → List (Walk V) → Frame V
  frame pc l os cs ws = record { fn = site.fn; pc = pc; slots = l; values = os; callees = cs; walks = ws }

  -- the top frame at a place
  abbrev pub now : ℕ → Slots V → List V → List (Callee V) → List (Walk V) → S → Next S V K
  now pc l os cs ws s = more (record { top = frame pc l os cs ws; below = site.below; active = site.active; state = s })

  abbrev pub G : {A : Type 0} → Next S V K → Outcome S V K A → (A → Slots V → S → Next S V K) → Type 0
  G {A} a o k = Gives site.ops site.codes A a o k

  abbrev pub At : ℕ → Lines → ℕ → Type 0
  At pc is pc' = Stands site.codes site.fn pc is pc'

  pub cut : (pc pc' : ℕ) (a b : Lines) → At pc (a ++ b) pc' → (m : ℕ) × At pc a m × At m b pc'
  cut pc pc' a b h = halves site.codes site.fn pc pc' a b h

  abbrev pub config : ℕ → Slots V → List V → List (Callee V) → List (Walk V) → S → Config S V
  config pc l os cs ws s = record { top = frame pc l os cs ws; below = site.below; active = site.active; state = s }

  -- one instruction, and what follows it
  pub one : {A : Type 0} (at : ℕ) (i : Instruction) (pc : ℕ) (l : Slots V) (os : List V) (cs : List (Callee V))
      (ws : List (Walk V)) (s : S)
      {b : Next S V K} {o : Outcome S V K A} {k : A → Slots V → S → Next S V K} → place site.codes site.fn pc ≡ Some (at, i) →
      performs site.ops site.codes (here_at at) i (frame pc l os cs ws) site.below s ≡ b → G b o k → G (now pc l os cs ws s) o k
  one at i pc l os cs ws s h e g =
      gives_from (subst (Leads site.ops site.codes (now pc l os cs ws s)) e (stepped (config pc l os cs ws s) at i h)) g

  -- one instruction, whose outcome leaves these values
  pub op : {A : Type 0} (at : ℕ) (i : Instruction) (pc pc' : ℕ) (l : Slots V) (os : List V) (cs : List (Callee V))
      (ws : List (Walk V)) (s : S)
      (push : A → List V) (o : Outcome S V K A) → At pc ((at, i) ∷ []) pc' →
      performs site.ops site.codes (here_at at) i (frame pc l os cs ws) site.below s ≡ doing o (λ a l s. now (suc pc) l (push a) cs ws s) →
      G (now pc l os cs ws s) o (λ a l s. now pc' l (push a) cs ws s)
  op at i pc pc' l os cs ws s push o h e =
      subst (λ p. G (now pc l os cs ws s) o (λ a l s. now p l (push a) cs ws s)) h.1
      (record { by = subst (Leads site.ops site.codes (now pc l os cs ws s)) e (stepped (config pc l os cs ws s) at i h.0) })

  pub arrived : (pc pc' : ℕ) (l : Slots V) (os : List V) (cs : List (Callee V)) (ws : List (Walk V)) (s : S) →
      pc ≡ pc' →
      Leads site.ops site.codes (now pc l os cs ws s) (now pc' l os cs ws s)
  arrived pc pc' l os cs ws s e = same (ap (λ p. now p l os cs ws s) e)

  module _ (at : ℕ) where
    abbrev here : Here
    here = here_at at

    pub read_runs : (b : Binding) (pc pc' : ℕ) (l : Slots V) (os : List V) (cs : List (Callee V)) (ws : List (Walk V))
        (s : S) → At pc (read_code at b ∷ []) pc' →
        G (now pc l os cs ws s) (read site.ops here b l s) (λ v l s. now pc' l (v ∷ os) cs ws s)
    read_runs (slot n) pc pc' l os cs ws s h = op at (instr.load_slot n) pc pc' l os cs ws s (λ v. v ∷ os) _ h refl
    read_runs (global n) pc pc' l os cs ws s h = op at (instr.load_global n) pc pc' l os cs ws s (λ v. v ∷ os) _ h refl
    read_runs (builtin p) pc pc' l os cs ws s h = op at (instr.push_builtin p) pc pc' l os cs ws s (λ v. v ∷ os) (done (site.ops.predeclared p) l s) h refl

    pub set_runs : (b : Binding) (v : V) (pc pc' : ℕ) (l : Slots V) (os : List V) (cs : List (Callee V))
        (ws : List (Walk V)) (s : S) → At pc (set_code at b ∷ []) pc' →
        G (now pc l (v ∷ os) cs ws s) (set site.ops here b v l s) (λ _ l s. now pc' l os cs ws s)
    set_runs (slot n) v pc pc' l os cs ws s h = op at (instr.store_slot n) pc pc' l (v ∷ os) cs ws s (λ _. os) (done tt (put n (Some v) l) s) h refl
    set_runs (global n) v pc pc' l os cs ws s h = op at (instr.store_global n) pc pc' l (v ∷ os) cs ws s (λ _. os) (done tt l (site.ops.set_global site.fn.file n v s)) h refl
    set_runs (builtin p) v pc pc' l os cs ws s h = op at instr.drop_top pc pc' l (v ∷ os) cs ws s (λ _. os) (done tt l s) h refl

    each_runs : (bs : List Binding) (vs : List V) → length vs ≡ length bs →
        (pc pc' : ℕ) (l : Slots V) (os : List V) (cs : List (Callee V)) (ws : List (Walk V)) (s : S) →
        At pc (map (set_code at) bs) pc' →
        G (now pc l (vs ++ os) cs ws s) (set_each site.ops here bs vs l s) (λ _ l s. now pc' l os cs ws s)
    each_runs [] [] e pc pc' l os cs ws s h = record { by = arrived pc pc' l os cs ws s h }
    each_runs [] (v ∷ vs) e pc pc' l os cs ws s h = absurd (omega (arith, e))
    each_runs (b ∷ bs) [] e pc pc' l os cs ws s h = absurd (omega (arith, e))
    each_runs (b ∷ bs) (v ∷ vs) e pc pc' l os cs ws s h =
        gives_then {k = λ _ l s. now (suc pc) l (vs ++ os) cs ws s} (set site.ops here b v l s) (set_runs b v pc (suc pc) l (vs ++ os) cs ws s (h.0, refl)) (λ _ l s.
        each_runs bs vs (omega (arith, e)) (suc pc) pc' l os cs ws s h.1)

    by_test : {A : Type 0} (t : Bool) (a b : Next S V K) (m n : Effect S V K A) (l : Slots V) (s : S)
        (k : A → Slots V → S → Next S V K) → (t ≡ true → G a (m l s) k) → G b (n l s) k →
        G (choose t a b) ((if t then m else n) l s) k
    by_test true a b m n l s k g h = g refl
    by_test false a b m n l s k g h = h

    pub assign_runs : (bs : List Binding) (v : V) (pc pc' : ℕ) (l : Slots V) (os : List V) (cs : List (Callee V))
        (ws : List (Walk V)) (s : S) → At pc (assign_code at bs) pc' →
        G (now pc l (v ∷ os) cs ws s) (assigned site.ops here bs v l s) (λ _ l s. now pc' l os cs ws s)
    assign_runs [] v pc pc' l os cs ws s h = op at instr.drop_top pc pc' l (v ∷ os) cs ws s (λ _. os) (done tt l s) h refl
    assign_runs (b ∷ []) v pc pc' l os cs ws s h = set_runs b v pc pc' l os cs ws s h
    assign_runs (b ∷ c ∷ bs) v pc pc' l os cs ws s h =
        let n = length (b ∷ c ∷ bs) in
        one at (instr.unpack n) pc l (v ∷ os) cs ws s h.0 refl (
        gives_then {k = spread site.ops site.codes here n (frame pc l (v ∷ os) cs ws) os site.below} (act here (site.ops.parts v) l s) (record { by = stays }) (λ vs l s.
        by_test (nat_eq (length vs) n) _ _ (set_each site.ops here (b ∷ c ∷ bs) vs) (raise here (site.ops.refusal arity)) l s _
        (λ e. each_runs (b ∷ c ∷ bs) vs (eqb-true (length vs) n e) (suc pc) pc' l os cs ws s h.1)
        (record { by = stays })))

    pub forget_runs : (own : Option OwnSlots) (pc pc' : ℕ) (l : Slots V) (os : List V) (cs : List (Callee V))
        (ws : List (Walk V)) (s : S) → At pc (forget_code at own) pc' →
        G (now pc l os cs ws s) (forget site.ops own l s) (λ _ l s. now pc' l os cs ws s)
    forget_runs None pc pc' l os cs ws s h = record { by = arrived pc pc' l os cs ws s h }
    forget_runs (Some own) pc pc' l os cs ws s h =
        op at (instr.clear_slots own.first own.end) pc pc' l os cs ws s (λ _. os) (done tt (cleared (own.end - own.first) own.first l) s) h refl

    module _ (invoke : Invoke S V K) (calls : Calls site.ops site.codes site.active invoke) where
      resumes : (l : Slots V) (pc : ℕ) (os : List V) (cs : List (Callee V)) (ws : List (Walk V)) (r : Final S V K) →
          finishing (frame pc l os cs ws ∷ site.below) site.active r ≡ doing (resumed l r) (λ v l s. now pc l (v ∷ os) cs ws s)
      resumes l pc os cs ws (Ok p) = refl
      resumes l pc os cs ws (Err e) = refl

      -- arguments, and the call
      pub call_runs : (n : ℕ) (ci cb : Lines) (mi mb : Effect S V K (List V)) (names : List Name) →
          ((l : Slots V) (s : S) → Always (λ vs. length vs ≡ n) (mi l s)) →
          ((l : Slots V) (s : S) → Always (λ vs. length vs ≡ length names) (mb l s)) →
          ((pc pc' : ℕ) (l : Slots V) (os : List V) (cs : List (Callee V)) (ws : List (Walk V)) (s : S) → At pc ci pc' → G (now pc l os cs ws s) (mi l s) (λ vs l s. now pc' l (onto vs os) cs ws s)) →
          ((pc pc' : ℕ) (l : Slots V) (os : List V) (cs : List (Callee V)) (ws : List (Walk V)) (s : S) → At pc cb pc' → G (now pc l os cs ws s) (mb l s) (λ vs l s. now pc' l (onto vs os) cs ws s)) →
          (g : Callee V) (pc pc' : ℕ) (l : Slots V) (os : List V) (cs : List (Callee V)) (ws : List (Walk V))
          (s : S) → At pc (call_code at n ci names cb) pc' →
          G (now pc l os (g ∷ cs) ws s) (calling site.ops invoke here g mi mb names l s) (λ v l s. now pc' l (v ∷ os) cs ws s)
      call_runs n ci cb mi mb names li lb ri rb g pc pc' l os cs ws s h =
          let p = cut pc pc' ci _ h in
          let q = cut p.0 pc' cb _ p.2 in
          gives_all _ (mi l s) (li l s) (ri pc p.0 l os (g ∷ cs) ws s p.1) (λ vs l s e.
          gives_all _ (mb l s) (lb l s) (rb p.0 q.0 l (onto vs os) (g ∷ cs) ws s q.1) (λ xs l s d.
          one at (instr.call n names) q.0 l (onto xs (onto vs os)) (g ∷ cs) ws s q.2.0 (taken xs (onto vs os) (length names) _ d ∙ taken vs os n _ e) (
          subst (λ p. G (start site.ops site.codes here g (record { items = vs; named = paired names xs }) (frame (suc q.0) l os cs ws ∷ site.below) s) (resumed l (invoke here g (record { items = vs; named = paired names xs }) s)) (λ v l s. now p l (v ∷ os) cs ws s)) q.2.1
          (record { by = subst (Leads site.ops site.codes (start site.ops site.codes here g (record { items = vs; named = paired names xs }) (frame (suc q.0) l os cs ws ∷ site.below) s)) (resumes l (suc q.0) os cs ws _) (calls.by site.fn.file at g (record { items = vs; named = paired names xs }) (frame (suc q.0) l os cs ws ∷ site.below) s) }))))

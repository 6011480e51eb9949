-- What statements do is alike.
use Rattle.std.proofs.Common.{ℕ, List, [], ◌∷◌, if◌then◌else◌}
use Rattle.std.specs.Prelude.{Option, Some, None}
use Rattle.program_tree.specs.Resolved.{Term, Statement, load, assign, assign_item, add_to, add_to_item, evaluate, pass, break_loop, continue_loop, give_back, branch, loop, define, Branches, no_branches, a_branch, Steps, no_steps, step}
use Rattle.meaning.specs.Names.{Loaded, Binding}
use Rattle.meaning.specs.Operations.{FunctionId, Operations}
use Rattle.meaning.specs.Outcome.{Effect, ◌>>=◌, pure, act, change, Here}
use Rattle.meaning.specs.Functions.{Files, function_name}
use Rattle.meaning.specs.Expressions.{Invoke, truth, read, set, assigned, walking, eval, evals}
use Rattle.meaning.specs.Statements.{End, next, breaks, continues, returns, Doing, after_step, after_turn, loop_turns, imports, given_back, makes_function, exec, branches, block}
use Rattle.keeping.specs.Kept.{Kept, goods, anything}
use Rattle.keeping.specs.Owed.{EachKeeps}
use Rattle.keeping.proofs.Effects.{goods_stay, From, then_from, change_from}
use Rattle.keeping.proofs.Terms.{read_from, assigned_from, InvokeKeeps, eval_from, evals_from}
use Rattle.keeping.proofs.Blocks.{good_end, loop_turns_from, exec_from, block_from}
use Rattle.agreeing.specs.Agreed.{EachAgrees}
use Rattle.agreeing.proofs.Effects.{Side, the_one, the_other, Alike, same_alike, then_alike, ends_alike, act_alike, then_act_alike, change_alike, pure_alike, if_alike}
use Rattle.agreeing.proofs.Terms.{then_truth_alike, read_alike, set_alike, assigned_alike, walking_alike, InvokesAlike, eval_alike, evals_alike}

module _ {S V K : Type 0} (r : Kept S V) (o : Side → Operations S V K) (owed : EachKeeps r (o the_one)) (same : EachAgrees r (o the_one) (o the_other)) where
  -- what a statement gives back is good
  abbrev Ending : r.World → End V → Type 0
  Ending = good_end r (o the_one) owed

  step_alike : (k : r.World) (m : Side → Doing S V K) (e : End V) → Alike r k m → Alike r k (λ x. after_step (m x) e)
  step_alike k m next h = h
  step_alike k m breaks h = same_alike r k (pure breaks)
  step_alike k m continues h = same_alike r k (pure continues)
  step_alike k m (returns v) h = same_alike r k (pure (returns v))

  turn_alike : (k : r.World) (m : Side → Doing S V K) (e : End V) → Alike r k m → Alike r k (λ x. after_turn (m x) e)
  turn_alike k m next h = h
  turn_alike k m continues h = h
  turn_alike k m breaks h = same_alike r k (pure next)
  turn_alike k m (returns v) h = same_alike r k (pure (returns v))

  loop_turns_alike : (k : r.World) (here : Here) (f : Side → V → Doing S V K) (vs : List V) → goods r k vs
      → ((n : r.World) → r.grows k n → (v : V) → r.good n v → From r Ending n (f the_one v)) → ((n : r.World) → r.grows k n → (v : V) → r.good n v → Alike r n (λ x. f x v))
      → Alike r k (λ x. loop_turns (o x) here (f x) vs)
  loop_turns_alike k here f [] gs hf af = same_alike r k (pure next)
  loop_turns_alike k here f (v ∷ vs) gs hf af =
      then_act_alike r (anything r) k here (λ x. (o x).tick) (λ x _. f x v >>= after_turn (loop_turns (o x) here (f x) vs)) (λ n up s hs. (owed.tick n s hs, same.tick n s hs)) (λ n up u q.
      let gv = r.stays k n v up gs.0 in
      then_alike r Ending n (λ x. f x v) (λ x. after_turn (loop_turns (o x) here (f x) vs)) (hf n up v gv) (af n up v gv) (λ m more e g.
      let far = r.further k n m up more in
      turn_alike m (λ x. loop_turns (o x) here (f x) vs) e
      (loop_turns_alike m here f vs (goods_stay r k m vs far gs.1) (λ w on. hf w (r.further k m w far on)) (λ w on. af w (r.further k m w far on)))))

  imports_alike : (k : r.World) (here : Here) (m : List ℕ) (is : List Loaded) → Alike r k (λ x. imports (o x) here m is)
  imports_alike k here m [] = same_alike r k (pure tt)
  imports_alike k here m (i ∷ is) =
      then_act_alike r r.good k here (λ x. (o x).loaded here.file m i.asked) (λ x v. change ((o x).set_loaded here.file i.binds v) >>= λ _. imports (o x) here m is)
      (λ n up s hs. (owed.loaded n here.file m i.asked s hs, same.loaded n here.file m i.asked s hs)) (λ n up v g.
      then_alike r (anything r) n (λ x. change ((o x).set_loaded here.file i.binds v)) (λ x _. imports (o x) here m is)
      (change_from r K n ((o the_one).set_loaded here.file i.binds v) (λ w on s hs. owed.set_loaded w here.file i.binds v s (r.stays n w v on g) hs))
      (change_alike r n (λ x. (o x).set_loaded here.file i.binds v) (λ w on s hs. same.set_loaded w here.file i.binds v s (r.stays n w v on g) hs)) (λ w on u h. imports_alike w here m is))

  module _ (inv : Side → Invoke S V K) (calls : InvokeKeeps r (o the_one) owed (inv the_one)) (alike : InvokesAlike r o owed same inv) where
    abbrev value : Term → Here → Side → Effect S V K V
    value e here x = eval (o x) (inv x) e here

    value_from : (e : Term) (here : Here) (k : r.World) → From r r.good k (value e here the_one)
    value_from = eval_from r (o the_one) owed (inv the_one) calls

    value_alike : (e : Term) (here : Here) (k : r.World) → Alike r k (value e here)
    value_alike = eval_alike r o owed same inv calls alike

    given_alike : (e : Option Term) (here : Here) (k : r.World) → Alike r k (λ x. given_back (o x) (inv x) e here)
    given_alike None here k = pure_alike r k (λ x. (o x).none) same.none
    given_alike (Some e) here k = value_alike e here k

    -- what a statement does behind a value, and then goes on
    done_alike : (k : r.World) (m : Side → Effect S V K Unit) → Alike r k m → Alike r k (λ x. m x >>= λ _. pure {A = End V} next)
    done_alike k m h = ends_alike r k m (λ _. pure next) h

    module _ (files : Files) where
      abbrev body : Steps → Here → Side → Doing S V K
      body ss here x = block (o x) (inv x) files ss here

      body_from : (ss : Steps) (here : Here) (k : r.World) → From r Ending k (body ss here the_one)
      body_from = block_from r (o the_one) owed (inv the_one) calls files

      -- a turn of a loop keeps what holds
      round_from : (bs : List Binding) (ss : Steps) (here : Here) (k : r.World) (a : V) → r.good k a → From r Ending k (assigned (o the_one) here bs a >>= λ _. body ss here the_one)
      round_from bs ss here k a g =
          then_from r (anything r) Ending k (assigned (o the_one) here bs a) (λ _. body ss here the_one) (assigned_from r (o the_one) owed k here bs a g) (λ n up u q. body_from ss here n)

      mutual
        unfolding exec

        exec_alike : (st : Statement) (here : Here) (k : r.World) → Alike r k (λ x. exec (o x) (inv x) files st here)
        exec_alike (load m is) here k = done_alike k (λ x. imports (o x) here m is) (imports_alike k here m is)
        exec_alike (assign bs e) here k =
            then_alike r r.good k (value e here) (λ x v. assigned (o x) here bs v >>= λ _. pure next) (value_from e here k) (value_alike e here k)
            (λ n up v g. done_alike n (λ x. assigned (o x) here bs v) (assigned_alike r o owed same n here bs v g))
        exec_alike (assign_item f a e) here k =
            then_alike r r.good k (value e here) (λ x v. value f here x >>= λ b. value a here x >>= λ i. act here ((o x).set_item b i v) >>= λ _. pure next)
            (value_from e here k) (value_alike e here k) (λ n up v g.
            then_alike r r.good n (value f here) (λ x b. value a here x >>= λ i. act here ((o x).set_item b i v) >>= λ _. pure next) (value_from f here n) (value_alike f here n) (λ m more b h.
            then_alike r r.good m (value a here) (λ x i. act here ((o x).set_item b i v) >>= λ _. pure next) (value_from a here m) (value_alike a here m) (λ w on i j.
            done_alike w (λ x. act here ((o x).set_item b i v))
            (act_alike r w here (λ x. (o x).set_item b i v) (λ z last s hs.
            same.set_item z b i v s (r.stays m z b (r.further m w z on last) h) (r.stays w z i last j) (r.stays n z v (r.further n w z (r.further n m w more on) last) g) hs)))))
        exec_alike (add_to y e) here k =
            then_alike r r.good k (λ x. read (o x) here y) (λ x a. value e here x >>= λ b. act here ((o x).increase a b) >>= λ v. set (o x) here y v >>= λ _. pure next)
            (read_from r (o the_one) owed k here y) (read_alike r o owed same k here y) (λ n up a g.
            then_alike r r.good n (value e here) (λ x b. act here ((o x).increase a b) >>= λ v. set (o x) here y v >>= λ _. pure next) (value_from e here n) (value_alike e here n) (λ m more b h.
            then_act_alike r r.good m here (λ x. (o x).increase a b) (λ x v. set (o x) here y v >>= λ _. pure next)
            (λ w on s hs.
            let ga = r.stays n w a (r.further n m w more on) g in
            let gb = r.stays m w b on h in
            (owed.increase w a b s ga gb hs, same.increase w a b s ga gb hs))
            (λ w on v j. done_alike w (λ x. set (o x) here y v) (set_alike r o owed same w here y v j))))
        exec_alike (add_to_item f a e) here k =
            then_alike r r.good k (value f here)
            (λ x b. value a here x >>= λ i. act here ((o x).item b i) >>= λ c. value e here x >>= λ d. act here ((o x).increase c d) >>= λ v. act here ((o x).set_item b i v) >>= λ _. pure next)
            (value_from f here k) (value_alike f here k) (λ n up b g.
            then_alike r r.good n (value a here)
            (λ x i. act here ((o x).item b i) >>= λ c. value e here x >>= λ d. act here ((o x).increase c d) >>= λ v. act here ((o x).set_item b i v) >>= λ _. pure next)
            (value_from a here n) (value_alike a here n) (λ m more i h.
            then_act_alike r r.good m here (λ x. (o x).item b i) (λ x c. value e here x >>= λ d. act here ((o x).increase c d) >>= λ v. act here ((o x).set_item b i v) >>= λ _. pure next)
            (λ w on s hs.
            let gb = r.stays n w b (r.further n m w more on) g in
            let gi = r.stays m w i on h in
            (owed.item w b i s gb gi hs, same.item w b i s gb gi hs)) (λ w on c j.
            then_alike r r.good w (value e here) (λ x d. act here ((o x).increase c d) >>= λ v. act here ((o x).set_item b i v) >>= λ _. pure next) (value_from e here w) (value_alike e here w) (λ z last d p.
            then_act_alike r r.good z here (λ x. (o x).increase c d) (λ x v. act here ((o x).set_item b i v) >>= λ _. pure next)
            (λ q end s hs.
            let gc = r.stays w q c (r.further w z q last end) j in
            let gd = r.stays z q d end p in
            (owed.increase q c d s gc gd hs, same.increase q c d s gc gd hs)) (λ q end v t.
            done_alike q (λ x. act here ((o x).set_item b i v))
            (act_alike r q here (λ x. (o x).set_item b i v) (λ y fin s hs.
            let far = r.further z q y end fin in
            let wide = r.further m w y on (r.further w z y last far) in
            same.set_item y b i v s (r.stays n y b (r.further n m y more wide) g) (r.stays m y i wide h) (r.stays q y v fin t) hs)))))))
        exec_alike (evaluate e) here k = ends_alike r k (value e here) (λ _. pure next) (value_alike e here k)
        exec_alike pass here k = same_alike r k (pure next)
        exec_alike break_loop here k = same_alike r k (pure breaks)
        exec_alike continue_loop here k = same_alike r k (pure continues)
        exec_alike (give_back e) here k = ends_alike r k (λ x. given_back (o x) (inv x) e here) (λ v. pure (returns v)) (given_alike e here k)
        exec_alike (branch bs other) here k = branches_alike bs (body other here) here k (λ n up. block_alike other here n)
        exec_alike (loop bs e a) here k =
            then_alike r r.good k (value e here) (λ x v. walking (o x) here v (loop_turns (o x) here (λ b. assigned (o x) here bs b >>= λ _. body a here x))) (value_from e here k) (value_alike e here k) (λ n up v g.
            walking_alike r o owed same Ending n here v (λ x. loop_turns (o x) here (λ b. assigned (o x) here bs b >>= λ _. body a here x)) g
            (λ m more vs gs. loop_turns_from r (o the_one) owed m here (λ b. assigned (o the_one) here bs b >>= λ _. body a here the_one) vs gs (λ w on. round_from bs a here w))
            (λ m more vs gs. loop_turns_alike m here (λ x b. assigned (o x) here bs b >>= λ _. body a here x) vs gs (λ w on. round_from bs a here w) (λ w on b h.
            then_alike r (anything r) w (λ x. assigned (o x) here bs b) (λ x _. body a here x) (assigned_from r (o the_one) owed w here bs b h) (assigned_alike r o owed same w here bs b h)
            (λ z last u j. block_alike a here z))))
        exec_alike (define i y ps ds c st) here k =
            then_alike r (goods r) k (λ x. evals (o x) (inv x) ds here []) (λ x vs. makes_function (o x) (inv x) files here i vs >>= λ v. change ((o x).set_global here.file y v) >>= λ _. pure next)
            (evals_from r (o the_one) owed (inv the_one) calls ds here [] k tt) (evals_alike r o owed same inv calls alike ds here [] k tt) (λ n up vs gs.
            let f : FunctionId = record { file = here.file; number = i } in
            then_act_alike r r.good n here (λ x. (o x).define f (function_name files f) vs) (λ x v. change ((o x).set_global here.file y v) >>= λ _. pure next)
            (λ m more s hs.
            let gm = goods_stay r n m vs more gs in
            (owed.define m f (function_name files f) vs s gm hs, same.define m f (function_name files f) vs s gm hs)) (λ m more v g.
            done_alike m (λ x. change ((o x).set_global here.file y v)) (change_alike r m (λ x. (o x).set_global here.file y v) (λ w on s hs. same.set_global w here.file y v s (r.stays m w v on g) hs))))

        branches_alike : (bs : Branches) (other : Side → Doing S V K) (here : Here) (k : r.World) → ((n : r.World) → r.grows k n → Alike r n other)
            → Alike r k (λ x. branches (o x) (inv x) files bs (other x) here)
        branches_alike no_branches other here k h = h k (r.same k)
        branches_alike (a_branch n e a bs) other here k h =
            then_alike r r.good k (value e (record here { at = n })) (λ x v. truth (o x) v >>= λ t. if t then body a here x else branches (o x) (inv x) files bs (other x) here)
            (value_from e (record here { at = n }) k) (value_alike e (record here { at = n }) k) (λ m up v g.
            then_truth_alike r o owed same m v (λ x t. if t then body a here x else branches (o x) (inv x) files bs (other x) here) g (λ w more t.
            if_alike r w t (body a here) (λ x. branches (o x) (inv x) files bs (other x) here) (block_alike a here w)
            (branches_alike bs other here w (λ z on. h z (r.further k w z (r.further k m w up more) on)))))

        pub block_alike : (ss : Steps) (here : Here) (k : r.World) → Alike r k (body ss here)
        block_alike no_steps here k = same_alike r k (pure next)
        block_alike (step n st rest) here k =
            then_alike r Ending k (λ x. exec (o x) (inv x) files st (record here { at = n })) (λ x. after_step (body rest here x))
            (exec_from r (o the_one) owed (inv the_one) calls files st (record here { at = n }) k) (exec_alike st (record here { at = n }) k)
            (λ m up e g. step_alike m (body rest here) e (block_alike rest here m))

-- What statements keep.
use Rattle.std.proofs.Common.{ℕ, List, [], ◌∷◌, if◌then◌else◌}
use Rattle.std.specs.Prelude.{Option, Some, None}
use Rattle.program_tree.specs.Resolved.{Term, Statement, load, assign, assign_item, add_to, add_to_item, evaluate, pass, break_loop, continue_loop, give_back, branch, loop, define, Branches, no_branches, a_branch, Steps, no_steps, step}
use Rattle.meaning.specs.Names.{Loaded}
use Rattle.meaning.specs.Operations.{Operations}
use Rattle.meaning.specs.Outcome.{Effect, ◌>>=◌, pure, act, change, Here}
use Rattle.meaning.specs.Functions.{Files, function_name}
use Rattle.meaning.specs.Expressions.{Invoke, truth, read, set, assigned, walking, eval, evals}
use Rattle.meaning.specs.Statements.{End, next, breaks, continues, returns, Doing, after_step, after_turn, loop_turns, imports, given_back, makes_function, exec, branches, block}
use Rattle.keeping.specs.Kept.{Kept, goods, anything}
use Rattle.keeping.specs.Owed.{EachKeeps}
use Rattle.keeping.proofs.Effects.{goods_stay, From, then_from, pure_from, unit_from, act_from, change_from, if_from}
use Rattle.keeping.proofs.Terms.{truth_from, read_from, set_from, assigned_from, walking_from, InvokeKeeps, eval_from, evals_from}

module _ {S V K : Type 0} (r : Kept S V) (ops : Operations S V K) (owed : EachKeeps r ops) where
  -- the value that is given back, if one is
  abbrev pub good_end : r.World → End V → Type 0
  good_end k next = Unit {0}
  good_end k breaks = Unit {0}
  good_end k continues = Unit {0}
  good_end k (returns v) = r.good k v

  end_stays : (k l : r.World) (e : End V) → r.grows k l → good_end k e → good_end l e
  end_stays k l next up h = tt
  end_stays k l breaks up h = tt
  end_stays k l continues up h = tt
  end_stays k l (returns v) up h = r.stays k l v up h

  goes_on : (k : r.World) → From r good_end k (pure {S = S} {V = V} {K = K} next)
  goes_on k = pure_from r K good_end k next (λ n up. tt)

  step_from : (k : r.World) (m : Doing S V K) (e : End V) → From r good_end k m → good_end k e → From r good_end k (after_step m e)
  step_from k m next h g = h
  step_from k m breaks h g = pure_from r K good_end k breaks (λ n up. tt)
  step_from k m continues h g = pure_from r K good_end k continues (λ n up. tt)
  step_from k m (returns v) h g = pure_from r K good_end k (returns v) (λ n up. r.stays k n v up g)

  turn_from : (k : r.World) (m : Doing S V K) (e : End V) → From r good_end k m → good_end k e → From r good_end k (after_turn m e)
  turn_from k m next h g = h
  turn_from k m continues h g = h
  turn_from k m breaks h g = pure_from r K good_end k next (λ n up. tt)
  turn_from k m (returns v) h g = pure_from r K good_end k (returns v) (λ n up. r.stays k n v up g)

  pub loop_turns_from : (k : r.World) (here : Here) (f : V → Doing S V K) (vs : List V) → goods r k vs → ((n : r.World) → r.grows k n → (v : V) → r.good n v → From r good_end n (f v))
      → From r good_end k (loop_turns ops here f vs)
  loop_turns_from k here f [] gs h = goes_on k
  loop_turns_from k here f (v ∷ vs) gs h =
      then_from r (anything r) good_end k (act here ops.tick) (λ _. f v >>= after_turn (loop_turns ops here f vs)) (act_from r (anything r) k here ops.tick (λ n up s hs. owed.tick n s hs)) (λ n up u q.
      then_from r good_end good_end n (f v) (after_turn (loop_turns ops here f vs)) (h n up v (r.stays k n v up gs.0)) (λ m more e g.
      turn_from m (loop_turns ops here f vs) e
      (loop_turns_from m here f vs (goods_stay r k m vs (r.further k n m up more) gs.1) (λ w on. h w (r.further k m w (r.further k n m up more) on))) g))

  imports_from : (k : r.World) (here : Here) (m : List ℕ) (is : List Loaded) → From r (anything r) k (imports ops here m is)
  imports_from k here m [] = unit_from r K k
  imports_from k here m (i ∷ is) =
      then_from r r.good (anything r) k (act here (ops.loaded here.file m i.asked)) (λ v. change (ops.set_loaded here.file i.binds v) >>= λ _. imports ops here m is)
      (act_from r r.good k here (ops.loaded here.file m i.asked) (λ n up s hs. owed.loaded n here.file m i.asked s hs)) (λ n up v g.
      then_from r (anything r) (anything r) n (change (ops.set_loaded here.file i.binds v)) (λ _. imports ops here m is)
      (change_from r K n (ops.set_loaded here.file i.binds v) (λ w on s hs. owed.set_loaded w here.file i.binds v s (r.stays n w v on g) hs)) (λ w on u h. imports_from w here m is))

  module _ (inv : Invoke S V K) (calls : InvokeKeeps r ops owed inv) where
    value_from : (e : Term) (here : Here) (k : r.World) → From r r.good k (eval ops inv e here)
    value_from = eval_from r ops owed inv calls

    given_from : (o : Option Term) (here : Here) (k : r.World) → From r r.good k (given_back ops inv o here)
    given_from None here k = pure_from r K r.good k ops.none (λ n up. owed.none n)
    given_from (Some e) here k = value_from e here k

    -- what a statement does behind a value, and then goes on
    done_from : (k : r.World) (m : Effect S V K Unit) → From r (anything r) k m → From r good_end k (m >>= λ _. pure next)
    done_from k m h = then_from r (anything r) good_end k m (λ _. pure next) h (λ n up u g. goes_on n)

    module _ (files : Files) where
      makes_from : (k : r.World) (here : Here) (i : ℕ) (vs : List V) → goods r k vs → From r r.good k (makes_function ops inv files here i vs)
      makes_from k here i vs gs =
          act_from r r.good k here (ops.define (record { file = here.file; number = i }) (function_name files (record { file = here.file; number = i })) vs)
          (λ n up s hs. owed.define n (record { file = here.file; number = i }) (function_name files (record { file = here.file; number = i })) vs s (goods_stay r k n vs up gs) hs)

      mutual
        unfolding exec

        pub exec_from : (st : Statement) (here : Here) (k : r.World) → From r good_end k (exec ops inv files st here)
        exec_from (load m is) here k = done_from k (imports ops here m is) (imports_from k here m is)
        exec_from (assign bs e) here k =
            then_from r r.good good_end k (eval ops inv e here) (λ v. assigned ops here bs v >>= λ _. pure next) (value_from e here k)
            (λ n up v g. done_from n (assigned ops here bs v) (assigned_from r ops owed n here bs v g))
        exec_from (assign_item f a e) here k =
            then_from r r.good good_end k (eval ops inv e here) (λ v. eval ops inv f here >>= λ b. eval ops inv a here >>= λ i. act here (ops.set_item b i v) >>= λ _. pure next) (value_from e here k) (λ n up v g.
            then_from r r.good good_end n (eval ops inv f here) (λ b. eval ops inv a here >>= λ i. act here (ops.set_item b i v) >>= λ _. pure next) (value_from f here n) (λ m more b h.
            then_from r r.good good_end m (eval ops inv a here) (λ i. act here (ops.set_item b i v) >>= λ _. pure next) (value_from a here m) (λ w on i j.
            done_from w (act here (ops.set_item b i v))
            (act_from r (anything r) w here (ops.set_item b i v) (λ z last s hs.
            owed.set_item z b i v s (r.stays m z b (r.further m w z on last) h) (r.stays w z i last j) (r.stays n z v (r.further n w z (r.further n m w more on) last) g) hs)))))
        exec_from (add_to x e) here k =
            then_from r r.good good_end k (read ops here x) (λ a. eval ops inv e here >>= λ b. act here (ops.increase a b) >>= λ v. set ops here x v >>= λ _. pure next) (read_from r ops owed k here x) (λ n up a g.
            then_from r r.good good_end n (eval ops inv e here) (λ b. act here (ops.increase a b) >>= λ v. set ops here x v >>= λ _. pure next) (value_from e here n) (λ m more b h.
            then_from r r.good good_end m (act here (ops.increase a b)) (λ v. set ops here x v >>= λ _. pure next)
            (act_from r r.good m here (ops.increase a b) (λ w on s hs. owed.increase w a b s (r.stays n w a (r.further n m w more on) g) (r.stays m w b on h) hs))
            (λ w on v j. done_from w (set ops here x v) (set_from r ops owed w here x v j))))
        exec_from (add_to_item f a e) here k =
            then_from r r.good good_end k (eval ops inv f here)
            (λ b. eval ops inv a here >>= λ i. act here (ops.item b i) >>= λ x. eval ops inv e here >>= λ y. act here (ops.increase x y) >>= λ v. act here (ops.set_item b i v) >>= λ _. pure next) (value_from f here k) (λ n up b g.
            then_from r r.good good_end n (eval ops inv a here)
            (λ i. act here (ops.item b i) >>= λ x. eval ops inv e here >>= λ y. act here (ops.increase x y) >>= λ v. act here (ops.set_item b i v) >>= λ _. pure next) (value_from a here n) (λ m more i h.
            then_from r r.good good_end m (act here (ops.item b i)) (λ x. eval ops inv e here >>= λ y. act here (ops.increase x y) >>= λ v. act here (ops.set_item b i v) >>= λ _. pure next)
            (act_from r r.good m here (ops.item b i) (λ w on s hs. owed.item w b i s (r.stays n w b (r.further n m w more on) g) (r.stays m w i on h) hs)) (λ w on x j.
            then_from r r.good good_end w (eval ops inv e here) (λ y. act here (ops.increase x y) >>= λ v. act here (ops.set_item b i v) >>= λ _. pure next) (value_from e here w) (λ z last y p.
            then_from r r.good good_end z (act here (ops.increase x y)) (λ v. act here (ops.set_item b i v) >>= λ _. pure next)
            (act_from r r.good z here (ops.increase x y) (λ q end s hs. owed.increase q x y s (r.stays w q x (r.further w z q last end) j) (r.stays z q y end p) hs)) (λ q end v t.
            done_from q (act here (ops.set_item b i v))
            (act_from r (anything r) q here (ops.set_item b i v) (λ c fin s hs.
            let far = r.further z q c end fin in
            let wide = r.further m w c on (r.further w z c last far) in
            owed.set_item c b i v s (r.stays n c b (r.further n m c more wide) g) (r.stays m c i wide h) (r.stays q c v fin t) hs)))))))
        exec_from (evaluate e) here k = then_from r r.good good_end k (eval ops inv e here) (λ _. pure next) (value_from e here k) (λ n up v g. goes_on n)
        exec_from pass here k = goes_on k
        exec_from break_loop here k = pure_from r K good_end k breaks (λ n up. tt)
        exec_from continue_loop here k = pure_from r K good_end k continues (λ n up. tt)
        exec_from (give_back o) here k =
            then_from r r.good good_end k (given_back ops inv o here) (λ v. pure (returns v)) (given_from o here k) (λ n up v g. pure_from r K good_end n (returns v) (λ m more. r.stays n m v more g))
        exec_from (branch bs other) here k = branches_from bs (block ops inv files other here) here k (λ n up. block_from other here n)
        exec_from (loop bs e a) here k =
            then_from r r.good good_end k (eval ops inv e here) (λ v. walking ops here v (loop_turns ops here (λ x. assigned ops here bs x >>= λ _. block ops inv files a here))) (value_from e here k) (λ n up v g.
            walking_from r ops owed good_end (λ c d q more. end_stays c d q more) n here v (loop_turns ops here (λ x. assigned ops here bs x >>= λ _. block ops inv files a here)) g (λ m more vs gs.
            loop_turns_from m here (λ x. assigned ops here bs x >>= λ _. block ops inv files a here) vs gs (λ w on x h.
            then_from r (anything r) good_end w (assigned ops here bs x) (λ _. block ops inv files a here) (assigned_from r ops owed w here bs x h) (λ z last u j. block_from a here z))))
        exec_from (define i x ps ds c body) here k =
            then_from r (goods r) good_end k (evals ops inv ds here []) (λ vs. makes_function ops inv files here i vs >>= λ v. change (ops.set_global here.file x v) >>= λ _. pure next)
            (evals_from r ops owed inv calls ds here [] k tt) (λ n up vs gs.
            then_from r r.good good_end n (makes_function ops inv files here i vs) (λ v. change (ops.set_global here.file x v) >>= λ _. pure next) (makes_from n here i vs gs) (λ m more v g.
            done_from m (change (ops.set_global here.file x v)) (change_from r K m (ops.set_global here.file x v) (λ w on s hs. owed.set_global w here.file x v s (r.stays m w v on g) hs))))

        branches_from : (bs : Branches) (other : Doing S V K) (here : Here) (k : r.World) → ((n : r.World) → r.grows k n → From r good_end n other) → From r good_end k (branches ops inv files bs other here)
        branches_from no_branches other here k h = h k (r.same k)
        branches_from (a_branch n e a bs) other here k h =
            then_from r r.good good_end k (eval ops inv e (record here { at = n })) (λ x. truth ops x >>= λ t. if t then block ops inv files a here else branches ops inv files bs other here)
            (value_from e (record here { at = n }) k) (λ m up x g.
            then_from r (anything r) good_end m (truth ops x) (λ t. if t then block ops inv files a here else branches ops inv files bs other here) (truth_from r ops owed m x) (λ w more t j.
            if_from r good_end w t (block ops inv files a here) (branches ops inv files bs other here) (block_from a here w)
            (branches_from bs other here w (λ z on. h z (r.further k w z (r.further k m w up more) on)))))

        pub block_from : (ss : Steps) (here : Here) (k : r.World) → From r good_end k (block ops inv files ss here)
        block_from no_steps here k = goes_on k
        block_from (step n st rest) here k =
            then_from r good_end good_end k (exec ops inv files st (record here { at = n })) (after_step (block ops inv files rest here)) (exec_from st (record here { at = n }) k)
            (λ m up e g. step_from m (block ops inv files rest here) e (block_from rest here m) g)

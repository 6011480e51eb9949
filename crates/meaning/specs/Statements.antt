-- What a statement does (Starlark specification, "Statements"): what it changes, and how it ends.
use Rattle.std.specs.Prelude.{ℕ, if◌then◌else◌, List, [], ◌∷◌, Option, Some, None}
use Rattle.program_tree.specs.Resolved.{Term, Statement, load, assign, assign_item, add_to}
use Rattle.program_tree.specs.Resolved.{add_to_item, evaluate, pass, break_loop, continue_loop}
use Rattle.program_tree.specs.Resolved.{give_back, branch, loop, define, Branches, no_branches}
use Rattle.program_tree.specs.Resolved.{a_branch, Steps, no_steps, step}
use Rattle.meaning.specs.Names.{Loaded}
use Rattle.meaning.specs.Operations.{Operations}
use Rattle.meaning.specs.Outcome.{Effect, ◌>>=◌, pure, act, change, Here}
use Rattle.meaning.specs.Functions.{Files, function_name}
use Rattle.meaning.specs.Expressions.{Invoke, truth, read, set, assigned, walking, eval, evals}

-- how a statement ends: it goes on, it leaves a loop or a turn of it, or it gives a value back
pub data End (V : Type 0) : Type 0 where
  next breaks continues : End V
  returns : V → End V

-- what a statement does
abbrev pub Doing : Type 0 → Type 0 → Type 0 → Type 0
Doing S V K = Effect S V K (End V)

-- the statements behind one are run if it goes on
abbrev pub after_step : {S V K : Type 0} → Doing S V K → End V → Doing S V K
after_step k next = k
after_step k breaks = pure breaks
after_step k continues = pure continues
after_step k (returns v) = pure (returns v)

-- the next turns are run unless the loop is left
abbrev pub after_turn : {S V K : Type 0} → Doing S V K → End V → Doing S V K
after_turn k next = k
after_turn k continues = k
after_turn k breaks = pure next
after_turn k (returns v) = pure (returns v)

module _ {S V K : Type 0} (ops : Operations S V K) where
  -- a turn of a loop for each item, which begins with a tick
  abbrev pub loop_turns : Here → (V → Doing S V K) → List V → Doing S V K
  loop_turns here f [] = pure next
  loop_turns here f (v ∷ vs) = act here ops.tick >>= λ _. f v >>= after_turn (loop_turns here f vs)

  -- the names that a load asks another file for, one after the other
  abbrev pub imports : Here → List ℕ → List Loaded → Effect S V K Unit
  imports here m [] = pure tt
  imports here m (i ∷ is) =
      act here (ops.loaded here.file m i.asked) >>= λ v.
      change (ops.set_loaded here.file i.binds v) >>= λ _.
      imports here m is

  module _ (invoke : Invoke S V K) where
    -- the value of an expression
    abbrev value : Term → Here → Effect S V K V
    value = eval ops invoke

    -- what a `return` gives back: None where it says nothing
    abbrev pub given_back : Option Term → Here → Effect S V K V
    given_back None here = pure ops.none
    given_back (Some e) here = value e here

    module _ (files : Files) where
      -- the function of this number is made where its `def` is run, and its defaults are evaluated
      -- then
      abbrev pub makes_function : Here → ℕ → List V → Effect S V K V
      makes_function here k vs =
          act here (ops.define (record { file = here.file; number = k })
          (function_name files (record { file = here.file; number = k })) vs)

      unfoldable mutual
        -- a statement
        pub exec : Statement → Here → Doing S V K
        exec (load m is) here = imports here m is >>= λ _. pure next
        exec (assign bs e) here = value e here >>= λ v. assigned ops here bs v >>= λ _. pure next
        -- `f[a] = e`: the right side, then the base, then the index
        exec (assign_item f a e) here =
            value e here >>= λ v. value f here >>= λ b. value a here >>= λ i.
            act here (ops.set_item b i v) >>= λ _. pure next
        -- `x += e`: x is read before e is evaluated
        exec (add_to x e) here =
            read ops here x >>= λ a. value e here >>= λ b.
            act here (ops.increase a b) >>= λ v. set ops here x v >>= λ _. pure next
        -- `f[a] += e`: the base, the index, the item there, then e
        exec (add_to_item f a e) here =
            value f here >>= λ b. value a here >>= λ i. act here (ops.item b i) >>= λ x.
            value e here >>= λ y.
            act here (ops.increase x y) >>= λ v. act here (ops.set_item b i v) >>= λ _. pure next
        exec (evaluate e) here = value e here >>= λ _. pure next
        exec pass here = pure next
        exec break_loop here = pure breaks
        exec continue_loop here = pure continues
        exec (give_back o) here = given_back o here >>= λ v. pure (returns v)
        exec (branch bs other) here = branches bs (block other here) here
        -- the walk ends with its loop, however that ends
        exec (loop bs e a) here =
            value e here >>= λ v.
            walking ops here v
            (loop_turns here (λ x. assigned ops here bs x >>= λ _. block a here))
        exec (define k x ps ds n body) here =
            evals ops invoke ds here [] >>= λ vs. makes_function here k vs >>= λ v.
            change (ops.set_global here.file x v) >>= λ _. pure next

        -- the tests of a condition, each at its own line, up to the first that holds; the
        -- statements of that branch, or those of the `else`
        pub branches : Branches → Doing S V K → Here → Doing S V K
        branches no_branches other here = other
        branches (a_branch n e a bs) other here =
            value e (record here { at = n }) >>= λ x. truth ops x >>= λ t.
            if t then block a here else branches bs other here

        -- statements, each at its own line
        pub block : Steps → Here → Doing S V K
        block no_steps here = pure next
        block (step n st rest) here =
            exec st (record here { at = n }) >>= after_step (block rest here)

-- What a call does, and what the top level of a file does (Starlark specification, "Function and
-- method calls").
use Rattle.std.specs.Prelude.{ℕ, zero, suc, if◌then◌else◌, [], ◌∷◌, Option, Some, None, replicate}
use Rattle.std.specs.List.{list_any}
use Rattle.meaning.specs.Operations.{FunctionId, Callee, Arguments, wrong_type, arity, recursion}
use Rattle.meaning.specs.Operations.{deep, Operations}
use Rattle.meaning.specs.Outcome.{Slots, Final, located, refused, final_of, ◌>>=◌, pure, act, Here}
use Rattle.meaning.specs.Entry.{same_function, called, entry}
use Rattle.meaning.specs.Functions.{Function, Files, function_at, def_line}
use Rattle.meaning.specs.Expressions.{Invoke}
use Rattle.meaning.specs.Statements.{End, next, breaks, continues, returns, block}

-- inside of a function that is called, where it is active
abbrev pub inside : FunctionId → Here → Here
inside f here = record { file = f.file; at = 0; active = f ∷ here.active }

-- outside, where no function is active
abbrev pub outside : ℕ → ℕ → Here
outside file at = record { file = file; at = at; active = [] }

-- what a function does in its own slots
abbrev pub Going : Type 0 → Type 0 → Type 0 → Type 0
Going S V K = Function → Slots V → S → Final S V K

module _ {S V K : Type 0} (ops : Operations S V K) where
  -- the value of a body: None unless it gives one back
  abbrev pub value_of : End V → V
  value_of next = ops.none
  value_of breaks = ops.none
  value_of continues = ops.none
  value_of (returns v) = v

  -- the tests of a call, in this order: the arguments fit the parameters, and the function isn't
  -- active already. What follows is done in slots of the function's own. The faults stand where the
  -- call is
  abbrev pub tested : Here → FunctionId → (Slots V → S → Final S V K) → Option (Slots V) → S →
      Final S V K
  tested here f go None s = refused here (ops.refusal arity)
  tested here f go (Some l) s =
      (if list_any (same_function f) here.active then (λ s. refused here (ops.refusal recursion))
      else go l) s

  -- a call of a function written in Starlark
  abbrev pub written : Here → FunctionId → Arguments V → Going S V K → Option Function → S →
      Final S V K
  written here f given go None s = refused here (ops.refusal wrong_type)
  written here f given go (Some d) s =
      tested here f (go d) (entry d.params d.slots (ops.defaults f s) given) s

module _ {S V K : Type 0} (ops : Operations S V K) (files : Files) where
  -- a call, of such a function or of something else
  abbrev pub chosen : Here → Callee V → Arguments V → (FunctionId → Going S V K) →
      Option FunctionId → S → Final S V K
  chosen here g given go None s = located here (ops.call g given s)
  chosen here g given go (Some f) s = written ops here f given (go f) (function_at files f) s

  -- what a function does once it is called: a tick, where the call is, and then its body
  abbrev pub running : Invoke S V K → Here → FunctionId → Going S V K
  running inv here f d l s =
      final_of
      ((act here ops.tick >>= λ _. block ops inv files d.body (inside f here) >>= λ e.
      pure (value_of ops e)) l s)

  -- a call inside of which at most so many functions more may become active
  unfoldable pub invoke : ℕ → Invoke S V K
  invoke zero here g given =
      chosen here g given (λ f d l s. refused here (ops.refusal deep)) (called ops g)
  invoke (suc n) here g given = chosen here g given (running (invoke n) here) (called ops g)

  -- a value is called from outside, at a line of a file; 128 functions may become active
  abbrev pub call_meaning : ℕ → ℕ → Callee V → Arguments V → S → Final S V K
  call_meaning file at = invoke 128 (outside file at)

  -- a call from outside of a function whose `def` is at this line; a fault where it has none
  abbrev pub defined_at : FunctionId → Arguments V → Option ℕ → S → Final S V K
  defined_at f given None s = refused (outside f.file 0) (ops.refusal wrong_type)
  defined_at f given (Some n) s =
      written ops (outside f.file n) f given (running (invoke 127) (outside f.file n) f)
      (function_at files f) s

  -- a function is called from outside, whatever value it has: so an implementation is called. The
  -- tests of the call and its tick stand at the line of the `def`
  abbrev pub function_meaning : FunctionId → Arguments V → S → Final S V K
  function_meaning f given = defined_at f given (def_line files f)

  -- what the top level of a file does, if there is that file
  abbrev pub top : ℕ → Option Function → S → Final S V K
  top file None s = refused (outside file 0) (ops.refusal wrong_type)
  top file (Some d) s =
      final_of
      ((block ops (invoke 128) files d.body (outside file 0) >>= λ e.
      pure (value_of ops e)) (replicate d.slots None) s)

  -- the top level of a file, which is no active function and takes no tick. Nothing is set in its
  -- slots
  abbrev pub top_meaning : ℕ → S → Final S V K
  top_meaning file = top file (function_at files (record { file = file; number = 0 }))

-- Calls and top levels do the same by either of two records of operations that agree.
use Rattle.std.proofs.Common.{◌≡◌, ◌∙◌, ℕ, zero, suc, Bool, true, false, if◌then◌else◌, refl, ap}
use Rattle.std.specs.Prelude.{Option, Some, None, replicate}
use Rattle.std.specs.List.{list_any}
use Rattle.meaning.specs.Operations.{FunctionId, Callee, plain, method, Arguments, wrong_type, arity, recursion, deep, Operations}
use Rattle.meaning.specs.Outcome.{Slots, Final, located, refused, final_of, ◌>>=◌, pure, Here}
use Rattle.meaning.specs.Entry.{same_function, called, entry}
use Rattle.meaning.specs.Functions.{Function, Files, function_at, def_line}
use Rattle.meaning.specs.Expressions.{Invoke}
use Rattle.meaning.specs.Statements.{End, next, breaks, continues, returns, block}
use Rattle.meaning.specs.Calls.{inside, outside, Going, value_of, tested, written, chosen, running, invoke, defined_at, top}
use Rattle.keeping.specs.Kept.{Kept, good_slots, good_callee, good_arguments, anything}
use Rattle.keeping.specs.Owed.{EachKeeps}
use Rattle.keeping.proofs.Terms.{InvokeKeeps}
use Rattle.keeping.proofs.Blocks.{good_end, block_from}
use Rattle.keeping.proofs.Entering.{good_entry, empty_slots, entry_good}
use Rattle.keeping.proofs.Calls.{invoke_keeps}
use Rattle.agreeing.specs.Agreed.{EachAgrees}
use Rattle.agreeing.specs.Laws.{CallsAgree, TopLevelsAgree}
use Rattle.agreeing.proofs.Effects.{Side, the_one, the_other, Alike, then_alike, then_act_alike, same_alike, pure_alike}
use Rattle.agreeing.proofs.Terms.{InvokesAlike}
use Rattle.agreeing.proofs.Blocks.{block_alike}

module _ {S V K : Type 0} (r : Kept S V) (o : Side → Operations S V K) (owed : EachKeeps r (o the_one)) (same : EachAgrees r (o the_one) (o the_other)) where
  ending_alike : (k : r.World) (e : End V) → Alike r k (λ x. pure {K = K} (value_of (o x) e))
  ending_alike k next = pure_alike r k (λ x. (o x).none) same.none
  ending_alike k breaks = pure_alike r k (λ x. (o x).none) same.none
  ending_alike k continues = pure_alike r k (λ x. (o x).none) same.none
  ending_alike k (returns v) = same_alike r k (pure v)

  -- what a function that is entered does is the same
  abbrev GoesAlike : (Side → Going S V K) → Type 0
  GoesAlike go = (d : Function) (l : Slots V) (k : r.World) (s : S) → good_slots r k l → r.holds k s → go the_one d l s ≡ go the_other d l s

  refused_same : (here : Here) (c d : K) → c ≡ d → refused {S = S} {V = V} here c ≡ refused here d
  refused_same here c d e = ap (λ c. refused here c) e

  if_same : (t : Bool) (m n : Side → S → Final S V K) (s : S) → m the_one s ≡ m the_other s → n the_one s ≡ n the_other s
      → (if t then m the_one else n the_one) s ≡ (if t then m the_other else n the_other) s
  if_same true m n s h g = h
  if_same false m n s h g = g

  tested_same : (here : Here) (f : FunctionId) (go : Side → Slots V → S → Final S V K) (e : Option (Slots V)) (k : r.World) (s : S)
      → ((l : Slots V) → good_slots r k l → go the_one l s ≡ go the_other l s) → good_entry r k e → tested (o the_one) here f (go the_one) e s ≡ tested (o the_other) here f (go the_other) e s
  tested_same here f go None k s h g = refused_same here ((o the_one).refusal arity) ((o the_other).refusal arity) (same.refusal arity)
  tested_same here f go (Some l) k s h g =
      if_same (list_any (same_function f) here.active) (λ x s. refused here ((o x).refusal recursion)) (λ x. go x l) s
      (refused_same here ((o the_one).refusal recursion) ((o the_other).refusal recursion) (same.refusal recursion)) (h l g)

  written_same : (here : Here) (f : FunctionId) (given : Arguments V) (go : Side → Going S V K) (d : Option Function) (k : r.World) (s : S) → GoesAlike go → good_arguments r k given → r.holds k s
      → written (o the_one) here f given (go the_one) d s ≡ written (o the_other) here f given (go the_other) d s
  written_same here f given go None k s h ga hs = refused_same here ((o the_one).refusal wrong_type) ((o the_other).refusal wrong_type) (same.refusal wrong_type)
  written_same here f given go (Some d) k s h ga hs =
      tested_same here f (λ x. go x d) (entry d.params d.slots ((o the_one).defaults f s) given) k s (λ l hl. h d l k s hl hs)
      (entry_good r k d.params d.slots ((o the_one).defaults f s) given (owed.defaults k f s hs) ga)
      ∙ ap (λ ds. tested (o the_other) here f (go the_other d) (entry d.params d.slots ds given) s) (same.defaults k f s hs)

  called_same : (g : Callee V) → called (o the_one) g ≡ called (o the_other) g
  called_same (plain v) = same.function v
  called_same (method v x) = refl

  module _ (files : Files) where
    chosen_same : (here : Here) (g : Callee V) (given : Arguments V) (go : Side → FunctionId → Going S V K) (f : Option FunctionId) (k : r.World) (s : S)
        → ((f : FunctionId) → GoesAlike (λ x. go x f)) → good_callee r k g → good_arguments r k given → r.holds k s
        → chosen (o the_one) files here g given (go the_one) f s ≡ chosen (o the_other) files here g given (go the_other) f s
    chosen_same here g given go None k s h gg ga hs = ap (located here) (same.call k g given s gg ga hs)
    chosen_same here g given go (Some f) k s h gg ga hs = written_same here f given (λ x. go x f) (function_at files f) k s (h f) ga hs

    calling_same : (here : Here) (g : Callee V) (given : Arguments V) (go : Side → FunctionId → Going S V K) (k : r.World) (s : S)
        → ((f : FunctionId) → GoesAlike (λ x. go x f)) → good_callee r k g → good_arguments r k given → r.holds k s
        → chosen (o the_one) files here g given (go the_one) (called (o the_one) g) s ≡ chosen (o the_other) files here g given (go the_other) (called (o the_other) g) s
    calling_same here g given go k s h gg ga hs =
        chosen_same here g given go (called (o the_one) g) k s h gg ga hs ∙ ap (λ f. chosen (o the_other) files here g given (go the_other) f s) (called_same g)

    body_alike : (inv : Side → Invoke S V K) → InvokeKeeps r (o the_one) owed (inv the_one) → InvokesAlike r o owed same inv → (d : Function) (here : Here) (k : r.World)
        → Alike r k (λ x. block (o x) (inv x) files d.body here >>= λ e. pure (value_of (o x) e))
    body_alike inv calls alike d here k =
        then_alike r (good_end r (o the_one) owed) k (λ x. block (o x) (inv x) files d.body here) (λ x e. pure (value_of (o x) e))
        (block_from r (o the_one) owed (inv the_one) calls files d.body here k) (block_alike r o owed same inv calls alike files d.body here k) (λ n up e g. ending_alike n e)

    running_alike : (inv : Side → Invoke S V K) → InvokeKeeps r (o the_one) owed (inv the_one) → InvokesAlike r o owed same inv → (here : Here) (f : FunctionId)
        → GoesAlike (λ x. running (o x) files (inv x) here f)
    running_alike inv calls alike here f d l k s hl hs =
        ap final_of
        (then_act_alike r (anything r) k here (λ x. (o x).tick) (λ x _. block (o x) (inv x) files d.body (inside f here) >>= λ e. pure (value_of (o x) e))
        (λ n up t ht. (owed.tick n t ht, same.tick n t ht)) (λ n up u g. body_alike inv calls alike d (inside f here) n) k (r.same k) l s hl hs)

    -- calls inside of which so many functions may become active
    abbrev within : ℕ → Side → Invoke S V K
    within n x = invoke (o x) files n

    within_keeps : (n : ℕ) → InvokeKeeps r (o the_one) owed (within n the_one)
    within_keeps = invoke_keeps r (o the_one) owed files

    invokes_alike : (n : ℕ) → InvokesAlike r o owed same (within n)
    unfolding invoke
    invokes_alike zero here g given k s gg ga hs =
        calling_same here g given (λ x f d l s. refused here ((o x).refusal deep)) k s
        (λ f d l w t hl ht. refused_same here ((o the_one).refusal deep) ((o the_other).refusal deep) (same.refusal deep)) gg ga hs
    invokes_alike (suc n) here g given k s gg ga hs =
        calling_same here g given (λ x. running (o x) files (within n x) here) k s (running_alike (within n) (within_keeps n) (invokes_alike n) here) gg ga hs

    defined_same : (f : FunctionId) (given : Arguments V) (line : Option ℕ) (k : r.World) (s : S) → good_arguments r k given → r.holds k s
        → defined_at (o the_one) files f given line s ≡ defined_at (o the_other) files f given line s
    defined_same f given None k s ga hs = refused_same (outside f.file 0) ((o the_one).refusal wrong_type) ((o the_other).refusal wrong_type) (same.refusal wrong_type)
    defined_same f given (Some n) k s ga hs =
        written_same (outside f.file n) f given (λ x. running (o x) files (within 127 x) (outside f.file n) f) (function_at files f) k s
        (running_alike (within 127) (within_keeps 127) (invokes_alike 127) (outside f.file n) f) ga hs

    top_same : (file : ℕ) (d : Option Function) (k : r.World) (s : S) → r.holds k s → top (o the_one) files file d s ≡ top (o the_other) files file d s
    top_same file None k s hs = refused_same (outside file 0) ((o the_one).refusal wrong_type) ((o the_other).refusal wrong_type) (same.refusal wrong_type)
    top_same file (Some d) k s hs =
        ap final_of
        (body_alike (within 128) (within_keeps 128) (invokes_alike 128) d (outside file 0) k k (r.same k) (replicate d.slots None) s (empty_slots r k d.slots) hs)

-- the two records of operations, by side
abbrev either_of : {S V K : Type 0} → Operations S V K → Operations S V K → Side → Operations S V K
either_of ops other the_one = ops
either_of ops other the_other = other

pub calls_agree : {S V K : Type 0} → CallsAgree S V K
calls_agree r ops other files f given k s owed same ga hs = defined_same r (either_of ops other) owed same files f given (def_line files f) k s ga hs

pub top_levels_agree : {S V K : Type 0} → TopLevelsAgree S V K
top_levels_agree r ops other files file k s owed same hs =
    top_same r (either_of ops other) owed same files file (function_at files (record { file = file; number = 0 })) k s hs

-- What calls and top levels keep.
use Rattle.std.proofs.Common.{ℕ, zero, suc, Bool, true, false, if◌then◌else◌}
use Rattle.std.specs.Prelude.{Option, Some, None, Result, Ok, Err, replicate}
use Rattle.std.specs.List.{list_any}
use Rattle.meaning.specs.Operations.{FunctionId, Callee, Arguments, recursion, deep, Operations}
use Rattle.meaning.specs.Outcome.{Slots, Final, located, refused, ◌>>=◌, pure, act, Here}
use Rattle.meaning.specs.Entry.{same_function, called, entry}
use Rattle.meaning.specs.Functions.{Function, Files, function_at, def_line}
use Rattle.meaning.specs.Expressions.{Invoke}
use Rattle.meaning.specs.Statements.{End, next, breaks, continues, returns, block}
use Rattle.meaning.specs.Calls.{inside, outside, Going, value_of, tested, written, chosen, running, invoke, defined_at, function_meaning, top, top_meaning}
use Rattle.keeping.specs.Kept.{Kept, good_slots, good_callee, good_arguments, Gives, anything}
use Rattle.keeping.specs.Owed.{EachKeeps}
use Rattle.keeping.specs.Laws.{CallsKeep, TopLevelsKeep}
use Rattle.keeping.proofs.Effects.{From, then_from, pure_from, act_from, final_gives}
use Rattle.keeping.proofs.Terms.{InvokeKeeps}
use Rattle.keeping.proofs.Blocks.{good_end, block_from}
use Rattle.keeping.proofs.Entering.{good_entry, entry_good}

module _ {S V K : Type 0} (r : Kept S V) (ops : Operations S V K) (owed : EachKeeps r ops) where
  value_good : (k : r.World) (e : End V) → good_end r ops owed k e → r.good k (value_of ops e)
  value_good k next g = owed.none k
  value_good k breaks g = owed.none k
  value_good k continues g = owed.none k
  value_good k (returns v) g = g

  -- what a function that is entered keeps
  abbrev Goes : Going S V K → Type 0
  Goes go = (d : Function) (l : Slots V) (k : r.World) (s : S) → good_slots r k l → r.holds k s → Gives r r.good k (go d l s)

  if_gives : (t : Bool) (m n : S → Final S V K) (k : r.World) (s : S) → Gives r r.good k (m s) → Gives r r.good k (n s) → Gives r r.good k ((if t then m else n) s)
  if_gives true m n k s h g = h
  if_gives false m n k s h g = g

  tested_gives : (here : Here) (f : FunctionId) (go : Slots V → S → Final S V K) (o : Option (Slots V)) (k : r.World) (s : S) → ((l : Slots V) → good_slots r k l → Gives r r.good k (go l s))
      → good_entry r k o → Gives r r.good k (tested ops here f go o s)
  tested_gives here f go None k s h g = tt
  tested_gives here f go (Some l) k s h g = if_gives (list_any (same_function f) here.active) (λ s. refused here (ops.refusal recursion)) (go l) k s tt (h l g)

  written_gives : (here : Here) (f : FunctionId) (given : Arguments V) (go : Going S V K) (o : Option Function) (k : r.World) (s : S) → Goes go → good_arguments r k given → r.holds k s
      → Gives r r.good k (written ops here f given go o s)
  written_gives here f given go None k s h ga hs = tt
  written_gives here f given go (Some d) k s h ga hs =
      tested_gives here f (go d) (entry d.params d.slots (ops.defaults f s) given) k s (λ l hl. h d l k s hl hs)
      (entry_good r k d.params d.slots (ops.defaults f s) given (owed.defaults k f s hs) ga)

  located_gives : (here : Here) (k : r.World) (o : Result (V × S) K) → Gives r r.good k o → Gives r r.good k (located here o)
  located_gives here k (Ok p) h = h
  located_gives here k (Err e) h = tt

  module _ (files : Files) where
    chosen_gives : (here : Here) (g : Callee V) (given : Arguments V) (go : FunctionId → Going S V K) (o : Option FunctionId) (k : r.World) (s : S) → ((f : FunctionId) → Goes (go f))
        → good_callee r k g → good_arguments r k given → r.holds k s → Gives r r.good k (chosen ops files here g given go o s)
    chosen_gives here g given go None k s h gg ga hs = located_gives here k (ops.call g given s) (owed.call k g given s gg ga hs)
    chosen_gives here g given go (Some f) k s h gg ga hs = written_gives here f given (go f) (function_at files f) k s (h f) ga hs

    body_gives : (inv : Invoke S V K) → InvokeKeeps r ops owed inv → (d : Function) (here : Here) (k : r.World) → From r r.good k (block ops inv files d.body here >>= λ e. pure (value_of ops e))
    body_gives inv calls d here k =
        then_from r (good_end r ops owed) r.good k (block ops inv files d.body here) (λ e. pure (value_of ops e)) (block_from r ops owed inv calls files d.body here k)
        (λ n up e g. pure_from r K r.good n (value_of ops e) (λ m more. r.stays n m (value_of ops e) more (value_good n e g)))

    running_gives : (inv : Invoke S V K) → InvokeKeeps r ops owed inv → (here : Here) (f : FunctionId) → Goes (running ops files inv here f)
    running_gives inv calls here f d l k s hl hs =
        final_gives r k ((act here ops.tick >>= λ _. block ops inv files d.body (inside f here) >>= λ e. pure (value_of ops e)) l s)
        (then_from r (anything r) r.good k (act here ops.tick) (λ _. block ops inv files d.body (inside f here) >>= λ e. pure (value_of ops e))
        (act_from r (anything r) k here ops.tick (λ n up t ht. owed.tick n t ht)) (λ n up u g. body_gives inv calls d (inside f here) n)
        k (r.same k) l s hl hs)

    pub invoke_keeps : (n : ℕ) → InvokeKeeps r ops owed (invoke ops files n)
    unfolding invoke
    invoke_keeps zero here g given k s gg ga hs = chosen_gives here g given (λ f d l s. refused here (ops.refusal deep)) (called ops g) k s (λ f d l w t hl ht. tt) gg ga hs
    invoke_keeps (suc n) here g given k s gg ga hs =
        chosen_gives here g given (running ops files (invoke ops files n) here) (called ops g) k s (running_gives (invoke ops files n) (invoke_keeps n) here) gg ga hs

    defined_gives : (f : FunctionId) (given : Arguments V) (o : Option ℕ) (k : r.World) (s : S) → good_arguments r k given → r.holds k s → Gives r r.good k (defined_at ops files f given o s)
    defined_gives f given None k s ga hs = tt
    defined_gives f given (Some n) k s ga hs =
        written_gives (outside f.file n) f given (running ops files (invoke ops files 127) (outside f.file n) f) (function_at files f) k s
        (running_gives (invoke ops files 127) (invoke_keeps 127) (outside f.file n) f) ga hs

    called_gives : (f : FunctionId) (given : Arguments V) (k : r.World) (s : S) → good_arguments r k given → r.holds k s → Gives r r.good k (function_meaning ops files f given s)
    called_gives f given k s ga hs = defined_gives f given (def_line files f) k s ga hs

    empty_slots : (k : r.World) (n : ℕ) → good_slots r k (replicate n None)
    empty_slots k zero = tt
    empty_slots k (suc n) = (tt, empty_slots k n)

    top_gives : (file : ℕ) (o : Option Function) (k : r.World) (s : S) → r.holds k s → Gives r r.good k (top ops files file o s)
    top_gives file None k s hs = tt
    top_gives file (Some d) k s hs =
        final_gives r k ((block ops (invoke ops files 128) files d.body (outside file 0) >>= λ e. pure (value_of ops e)) (replicate d.slots None) s)
        (body_gives (invoke ops files 128) (invoke_keeps 128) d (outside file 0) k k (r.same k) (replicate d.slots None) s (empty_slots k d.slots) hs)

    top_level_gives : (file : ℕ) (k : r.World) (s : S) → r.holds k s → Gives r r.good k (top_meaning ops files file s)
    top_level_gives file k s hs = top_gives file (function_at files (record { file = file; number = 0 })) k s hs

pub calls_keep : {S V K : Type 0} → CallsKeep S V K
calls_keep r ops files f given k s owed ga hs = called_gives r ops owed files f given k s ga hs

pub top_levels_keep : {S V K : Type 0} → TopLevelsKeep S V K
top_levels_keep r ops files file k s owed hs = top_level_gives r ops owed files file k s hs

-- How statements end in the machine, and the turns of a loop.
use Rattle.std.proofs.Common.{◌≡◌, ℕ, suc, ◌+◌, List, [], ◌∷◌, Some}
use Rattle.meaning.specs.Instructions as instr
use Rattle.meaning.specs.Names.{Binding}
use Rattle.meaning.specs.Outcome.{Slots, Outcome, ◌>>=◌, act}
use Rattle.meaning.specs.Expressions.{assigned}
use Rattle.meaning.specs.Statements.{End, next, breaks, continues, returns, Doing, after_step, after_turn, loop_turns}
use Rattle.meaning.specs.Machine.{Walk, Next, returning, outer, all_ended}
use Rattle.meaning.specs.Performing.{place}
use Rattle.meaning.specs.ExpressionCode.{turn_code, back}
use Rattle.meaning.proofs.Leads.{Leads, Gives, stays, goes_on, stepped, gives_from, gives_then}
use Rattle.meaning.proofs.OneStep.{Site, config, now, At, arrived, here_at}
use Rattle.meaning.proofs.Forms.{begins_turn, goes_back, ends_walk, regroup}

module _ {S V K : Type 0} (site : Site S V K) where
  abbrev pub standing : ℕ → Slots V → List (Walk V) → S → Next S V K
  standing pc l ws s = now site pc l [] [] ws s

  -- where a loop or a turn is left
  abbrev pub left : List (Walk V) → Slots V → S → Next S V K
  left [] l s = returning site.ops.none site.below (outer site.active) s
  left (w ∷ ws) l s = standing w.end l ws (site.ops.end w.of s)

  abbrev pub again_at : List (Walk V) → Slots V → S → Next S V K
  again_at [] l s = returning site.ops.none site.below (outer site.active) s
  again_at (w ∷ ws) l s = standing w.head l (w ∷ ws) s

  -- where each end of a statement leads
  abbrev pub ending : ℕ → List (Walk V) → End V → Slots V → S → Next S V K
  ending pc ws next l s = standing pc l ws s
  ending pc ws breaks l s = left ws l s
  ending pc ws continues l s = again_at ws l s
  ending pc ws (returns v) l s = returning v site.below (outer site.active) (all_ended site.ops ws s)

  abbrev Goes : {A : Type 0} → Next S V K → Outcome S V K A → (A → Slots V → S → Next S V K) → Type 0
  Goes {A} a o k = Gives site.ops site.codes A a o k

  module _ (at : ℕ) where
    pub to_next : (pc : ℕ) (l : Slots V) (ws : List (Walk V)) (s : S) →
        place site.codes site.fn pc ≡ Some (at, instr.again) →
        Leads site.ops site.codes (standing pc l ws s) (again_at ws l s)
    to_next pc l [] s h = stepped (config site pc l [] [] [] s) at instr.again h
    to_next pc l (w ∷ ws) s h = stepped (config site pc l [] [] (w ∷ ws) s) at instr.again h

    pub to_left : (pc : ℕ) (l : Slots V) (ws : List (Walk V)) (s : S) →
        place site.codes site.fn pc ≡ Some (at, instr.stop_walk) →
        Leads site.ops site.codes (standing pc l ws s) (left ws l s)
    to_left pc l [] s h = stepped (config site pc l [] [] [] s) at instr.stop_walk h
    to_left pc l (w ∷ ws) s h = stepped (config site pc l [] [] (w ∷ ws) s) at instr.stop_walk h

    -- a jump where a statement goes on
    pub skips_ending : (ws : List (Walk V)) (n m pc' : ℕ) → place site.codes site.fn m ≡ Some (at, instr.skip n) →
        suc m + n ≡ pc' → (e : End V) (l : Slots V) (s : S) →
        Leads site.ops site.codes (ending m ws e l s) (ending pc' ws e l s)
    skips_ending ws n m pc' h eq next l s =
        goes_on (stepped (config site m l [] [] ws s) at (instr.skip n) h) (arrived site (suc m + n) pc' l [] [] ws s eq)
    skips_ending ws n m pc' h eq breaks l s = stays
    skips_ending ws n m pc' h eq continues l s = stays
    skips_ending ws n m pc' h eq (returns v) l s = stays

    abbrev walk : V → List V → ℕ → ℕ → Walk V
    walk v vs head end = record { of = v; items = vs; head = head; end = end }

    -- where a loop's end leads, when its walk has ended
    abbrev pub closing : V → ℕ → List (Walk V) → End V → Slots V → S → Next S V K
    closing v end ws e l s = ending end ws e l (site.ops.end v s)

    turn_ends : (v : V) (xs : List V) (head m end : ℕ) (ws : List (Walk V)) (rest : Doing S V K) →
        ((l : Slots V) (s : S) → Leads site.ops site.codes (standing m l (walk v xs head end ∷ ws) s) (standing head l (walk v xs head end ∷ ws) s)) →
        ((l : Slots V) (s : S) → Goes (standing head l (walk v xs head end ∷ ws) s) (rest l s) (closing v end ws)) →
        (e : End V) (l : Slots V) (s : S) →
        Goes (ending m (walk v xs head end ∷ ws) e l s) (after_turn rest e l s) (closing v end ws)
    turn_ends v xs head m end ws rest hm run next l s = gives_from (hm l s) (run l s)
    turn_ends v xs head m end ws rest hm run continues l s = run l s
    turn_ends v xs head m end ws rest hm run breaks l s = record { by = stays }
    turn_ends v xs head m end ws rest hm run (returns x) l s = record { by = stays }

    -- the turns of a loop
    pub loops_run : (bs : List Binding) (body : Doing S V K) (v : V) (head u m end : ℕ) (ws : List (Walk V)) →
        At site head (turn_code at bs) u → place site.codes site.fn m ≡ Some (at, back bs) →
        ((l : Slots V) (ws : List (Walk V)) (s : S) → Goes (standing u l ws s) (body l s) (ending m ws)) →
        (vs : List V) (l : Slots V) (s : S) →
        Goes (standing head l (walk v vs head end ∷ ws) s) (loop_turns site.ops (here_at site at) (λ x. assigned site.ops (here_at site at) bs x >>= λ _. body) vs l s) (closing v end ws)
    loops_run bs body v head u m end ws h hm run [] l s = record { by = ends_walk site at bs v head end u l [] [] ws s h }
    loops_run bs body v head u m end ws h hm run (x ∷ xs) l s =
        regroup site at (act (here_at site at) site.ops.tick l s) (λ _. assigned site.ops (here_at site at) bs x) (λ _. body) (after_turn (loop_turns site.ops (here_at site at) (λ x. assigned site.ops (here_at site at) bs x >>= λ _. body) xs)) (standing head l (walk v (x ∷ xs) head end ∷ ws) s) (closing v end ws) (
        gives_then ((act (here_at site at) site.ops.tick >>= λ _. assigned site.ops (here_at site at) bs x) l s) (begins_turn site at bs v x xs head end u l [] [] ws s h) (λ _ l s.
        gives_then {f = after_turn (loop_turns site.ops (here_at site at) (λ x. assigned site.ops (here_at site at) bs x >>= λ _. body) xs)} (body l s) (run l (walk v xs head end ∷ ws) s)
        (turn_ends v xs head m end ws (loop_turns site.ops (here_at site at) (λ x. assigned site.ops (here_at site at) bs x >>= λ _. body) xs) (λ l s. goes_back site at bs v xs head end u m l [] [] ws s h hm) (λ l s. loops_run bs body v head u m end ws h hm run xs l s))))

  -- a statement, and the statements behind it
  pub step_ends : (rest : Doing S V K) (m pc' : ℕ) (ws : List (Walk V)) →
      ((l : Slots V) (s : S) → Goes (standing m l ws s) (rest l s) (ending pc' ws)) →
      (e : End V) (l : Slots V) (s : S) → Goes (ending m ws e l s) (after_step rest e l s) (ending pc' ws)
  step_ends rest m pc' ws run next l s = run l s
  step_ends rest m pc' ws run continues l s = record { by = stays }
  step_ends rest m pc' ws run breaks l s = record { by = stays }
  step_ends rest m pc' ws run (returns v) l s = record { by = stays }

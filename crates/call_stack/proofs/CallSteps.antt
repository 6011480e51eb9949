-- Calls, as the machine of `meaning` does them.
use Rattle.std.proofs.Common.{◌≡◌, ◌∙◌, List, ◌∷◌, ap, sym, subst, length, nat_lt, true, false, Ok}
use Rattle.std.specs.Prelude.{Some, Option, Result, Err, IfOk, MatchResult}
use Rattle.std.specs.Global.{Box}
use Rattle.std.specs.List.{list_any}
use Rattle.ticks.specs.declared.ticks.Kind.{Kind}
use Rattle.values.specs.declared.value.Value.{Value}
use Rattle.meaning.specs.Operations.{FunctionId, Arguments, Callee, Operations, recursion, deep}
use Rattle.meaning.specs.Outcome.{Here, Slots, acted}
use Rattle.meaning.specs.Entry.{called, entry, same_function}
use Rattle.meaning.specs.Instructions.{FunctionCode, Codes, code_at}
use Rattle.meaning.specs.Machine.{Frame, Next, calls, choose, continuing, doing, faults, frame_of, start, starting, starts}
use Rattle.frames.specs.declared.frame.Frame.{Frame as Kept}
use Rattle.frames.specs.declared.stop.Stop.{Stop}
use Rattle.frames.specs.Seen.{Stops}
use Rattle.call_stack.specs.CallView.{Begins, frame_seen}

module _ {T S : Type 0} (rest : T → List Value) where
  -- what begins as one thing begins as what is equal to it
  pub begins_same : (x y : List (Frame Value) → Next S Value Kind) (r : Result (Box (Kept T)) Stop) (active : List FunctionId) (s : S) →
      ((below : List (Frame Value)) → x below ≡ y below) → Begins rest y r active s → Begins rest x r active s
  begins_same x y r active s e h below =
      subst (λ z. MatchResult r (λ f. z ≡ continuing (frame_seen rest f) below active s) (Stops z)) (sym (e below)) (h below)

-- the arguments fit
pub starts_fits : {S V K : Type 0} (ops : Operations S V K) (codes : Codes) (here : Here) (f : FunctionId) (a : Arguments V)
    (below : List (Frame V)) (s : S) (o : Option FunctionCode) (d : FunctionCode) (l : Slots V) →
    o ≡ Some d → entry d.params d.slots (ops.defaults f s) a ≡ Some l →
    starts ops codes here f a below s o ≡ starting ops codes here f below s (Some l)
starts_fits ops codes here f a below s o d l e t =
    ap (starts ops codes here f a below s) e ∙ ap (starting ops codes here f below s) t

-- a function written in Starlark is called
pub starts_called : {S V K : Type 0} (ops : Operations S V K) (codes : Codes) (here : Here) (g : Callee V) (f : FunctionId) (a : Arguments V)
    (below : List (Frame V)) (s : S) → called ops g ≡ Some f →
    start ops codes here g a below s ≡ starts ops codes here f a below s (code_at codes f)
starts_called ops codes here g f a below s e = ap (calls ops codes here g a below s) e

-- a function becomes active, with the tick of its call
module _ {S V K : Type 0} (ops : Operations S V K) (codes : Codes) (here : Here) (f : FunctionId) (l : Slots V) (below : List (Frame V)) where
  abbrev on_entry : Unit {0} → Slots V → S → Next S V K
  on_entry x m u = continuing (frame_of f m) below (f ∷ here.active) u

  pub starting_enters : (s t : S) →
      list_any (same_function f) here.active ≡ false → nat_lt (length here.active) 128 ≡ true → ops.tick s ≡ Ok (tt, t) →
      starting ops codes here f below s (Some l) ≡ continuing (frame_of f l) below (f ∷ here.active) t
  starting_enters s t h k e =
      ap (λ b. choose b (faults here (ops.refusal recursion)) (choose (nat_lt (length here.active) 128)
      (doing (acted here l (ops.tick s)) on_entry) (faults here (ops.refusal deep)))) h
      ∙ (ap (λ b. choose b (doing (acted here l (ops.tick s)) on_entry) (faults here (ops.refusal deep))) k
      ∙ ap (λ r. doing (acted here l r) on_entry) e)

-- what holds, holds where a call succeeds
pub whatever_it_is : {A E P : Type 0} (r : Result A E) → P → IfOk r (λ _. P)
whatever_it_is (Ok a) p = p
whatever_it_is (Err e) p = tt

-- Steps, as the machine of `meaning` does them.
use Rattle.std.proofs.Common.{◌≡◌, ◌∙◌, List, ◌∷◌, ap, sym, subst}
use Rattle.std.specs.Prelude.{Option, Result, MatchResult, map}
use Rattle.ticks.specs.declared.ticks.Kind.{Kind}
use Rattle.values.specs.declared.value.Value.{Value}
use Rattle.meaning.specs.Operations.{FunctionId, Operations}
use Rattle.meaning.specs.Outcome.{Outcome, Slots, done}
use Rattle.meaning.specs.Machine.{Frame, Next, all_ended, doing, on_top, returning}
use Rattle.frames.specs.declared.frame.Walk.{Walk}
use Rattle.frames.specs.declared.stop.Step.{Step}
use Rattle.frames.specs.declared.stop.Stop.{Stop}
use Rattle.frames.specs.Seen.{Stops, shown, walks_seen}
use Rattle.call_stack.specs.ActiveView.{ids_seen}
use Rattle.call_stack.specs.CallView.{frame_seen}
use Rattle.call_stack.specs.RunView.{Moves}
use Rattle.call_stack.specs.declared.running.Running.{Running}

module _ {T S : Type 0} (rest : T → List Value) where
  -- what moves so moves as what is equal to it
  pub moves_same : (x y : Next S Value Kind) (result : Result Step Stop) (r : Running T) (s : S) → x ≡ y → Moves rest y result r s →
      Moves rest x result r s
  moves_same x y result r s e h =
      subst (λ z. MatchResult result (λ q. z ≡ shown rest (map (frame_seen rest) r.below) (ids_seen r.active) q r.top.value s) (Stops z)) (sym e) h

  -- the top is given back when all walks have ended
  pub gives_top : (ops : Operations S Value Kind) (values vs : List Value) (v : Value) (o p : Option (Walk T)) (outer : List (Walk T)) (s t : S)
      (below : List (Frame Value)) (active : List FunctionId) → values ≡ v ∷ vs → p ≡ o → t ≡ all_ended ops (walks_seen rest p outer) s →
      on_top {S = S} {V = Value} {K = Kind} values (λ w os. returning w below active (all_ended ops (walks_seen rest o outer) s)) ≡ returning v below active t
  gives_top ops values vs v o p outer s t below active e q h =
      ap (λ xs. on_top {S = S} {V = Value} {K = Kind} xs (λ w os. returning w below active (all_ended ops (walks_seen rest o outer) s))) e
      ∙ ap (returning v below active) (ap (λ w. all_ended ops (walks_seen rest w outer) s) (sym q) ∙ sym h)

  -- what is found is given back when all walks have ended
  pub gives_found : (ops : Operations S Value Kind) (x : Outcome S Value Kind Value) (l : Slots Value) (v : Value) (o p : Option (Walk T)) (outer : List (Walk T)) (s t : S)
      (below : List (Frame Value)) (active : List FunctionId) → x ≡ done v l s → p ≡ o → t ≡ all_ended ops (walks_seen rest p outer) s →
      doing x (λ w _ u. returning w below active (all_ended ops (walks_seen rest o outer) u)) ≡ returning v below active t
  gives_found ops x l v o p outer s t below active e q h =
      ap (λ y. doing y (λ w _ u. returning w below active (all_ended ops (walks_seen rest o outer) u))) e
      ∙ ap (returning v below active) (ap (λ w. all_ended ops (walks_seen rest w outer) s) (sym q) ∙ sym h)

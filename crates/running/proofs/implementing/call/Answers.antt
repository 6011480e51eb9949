use Rattle.std.proofs.Common.{◌≡◌, ◌∙◌, List, Result, Ok, Err, IfOk, MatchResult, ap, subst}
use Rattle.meaning.specs.Calls.{function_meaning}
use Rattle.meaning.specs.Outcome.{Final}
use Rattle.ticks.specs.declared.ticks.Kind.{Kind}
use Rattle.values.specs.declared.value.Value.{Value}
use Rattle.language.specs.Language.{language, function_id}
use Rattle.language.specs.declared.whole.Whole.{Whole}
use Rattle.loading.specs.Loads.{Path}
use Rattle.loading.specs.declared.faults.Placed.{Placed}
use Rattle.call_stack.specs.CallView.{arguments_seen}
use Rattle.running.specs.Ran.{ran}
use Rattle.running.proofs.implementing.call.Goals as goal

same_call : {W E : Type 0} (paths : List Path) (t : Whole W) (m n : Final (Whole W) Value Kind)
    (result : Result (Result Value (Placed Kind)) E) → m ≡ n
    → IfOk result (λ r. MatchResult r (λ v. ran paths m ≡ Ok (v, t)) (λ p. ran paths m ≡ Err p))
    → IfOk result (λ r. MatchResult r (λ v. ran paths n ≡ Ok (v, t)) (λ p. ran paths n ≡ Err p))
same_call paths t m n result e h =
    subst (λ x. IfOk result (λ r. MatchResult r (λ v. ran paths x ≡ Ok (v, t)) (λ p. ran paths x ≡ Err p))) e h

pub returns-clause-means : goal.returns-clause-means
returns-clause-means g c files e =
    let s = c.args.setting.now in
    let ops = language (g.L.Link.linked s.linked.now) (g.P.Place.place s.place.now) in
    same_call s.paths.now _ _ _ c.run.result
    (ap (λ f. function_meaning ops files f (arguments_seen c.in_ok-arguments.arguments) c.args.whole.now) c.function_id.ensures
    ∙ ap (λ a. function_meaning ops files (function_id c.args.id) a c.args.whole.now) c.in_ok-arguments.ensures)
    (c.run.ensures.means files e)

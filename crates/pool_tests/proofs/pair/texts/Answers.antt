use Rattle.std.proofs.Common.{◌≡◌, ◌∙◌, ◌<◌, ◌∷◌, ℕ, List, [], sym, subst, arith}
use Rattle.edges.proofs.Ordered.{stepped_is}
use Rattle.pool.specs.Gathered.{HasOutcomes}
use Rattle.pool_tests.specs.Examples.{bracketed}
use Rattle.pool_tests.proofs.TwoNodes.{pair, pair_order, pair_text, pair_stepped}
use Rattle.pool_tests.proofs.pair.texts.Goals as goal

pub returns-in-Ok-clause-text : goal.returns-in-Ok-clause-text
returns-in-Ok-clause-text g c =
    let step : ℕ → List (List ℕ) → List ℕ = λ n us. bracketed us in
    let ran = rw c.in-Ok.is at c.in_ok-ran.ensures.outcomes in
    let found = subst (λ (p : List (List ℕ)). HasOutcomes [] step (λ n us. Unit {0}) p c.in-Ok.gathered) c.requires ran in
    found (λ t apart. tt) 1 (omega arith) ∙ sym (stepped_is pair (λ n. []) step 2 pair_order.after pair_text pair_stepped 1 (omega arith))

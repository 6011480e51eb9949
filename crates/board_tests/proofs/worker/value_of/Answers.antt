use Rattle.std.proofs.Common.{ℕ, ◌<◌, List, length, get_or, sym, refl, subst}
use Rattle.board.specs.Journal.{times}
use Rattle.board_tests.proofs.Places.{times_some}
use Rattle.board_tests.proofs.worker.value_of.Goals as goal

pub read-requires-clause-node : goal.read-requires-clause-node
read-requires-clause-node c =
    let ds : List ℕ = c.deps-deps.result.now in let d : ℕ = get_or ds c.loop-i.i 0 in
    let here : 0 < times d ds = times_some ds d c.loop-i.i c.loop-i-test.true refl in
    let inside = c.deps-deps.ensures.graph.plan_inside c.args.n d (subst (λ (l : List ℕ). 0 < times d l) c.deps-deps.ensures.value here) in
    subst (λ (p : List (List ℕ)). d < length p) (sym c.requires.pass.1) inside

use Rattle.std.proofs.Common.{◌≡◌, ℕ, ◌<◌, List, map, sym, ◌∙◌, subst, arith}
use mathlib.Core.Logic.{dite}
use native.Mathlib.Decide.{ℕ_discrete}
use Rattle.board.specs.Journal.{times, deps}
use Rattle.board_tests.proofs.Places.{at_map}
use Rattle.board_tests.proofs.lists.all_inside.Goals as goal

pub loop-n-preserved : goal.loop-n-preserved
loop-n-preserved c k x lt p =
    let lists : List (List ℕ) = map (λ v. v.items) c.args.lists.now in
    let here : deps lists c.loop-n.n ≡ c.as_slice.result.now = at_map (λ v. v.items) c.args.lists.now c.loop-n.n c.index-lists-n.result c.loop-n-test.true c.index-lists-n.is ∙ sym c.as_slice.ensures.value in dite (ℕ_discrete k c.loop-n.n)
    (λ e. c.if-not-is_below.ensures x (subst (λ (l : List ℕ). 0 < times x l) here (subst (λ (j : ℕ). 0 < times x (deps lists j)) e p)))
    (λ ne. c.loop-n.invariant k x (omega arith) p)

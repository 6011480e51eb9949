use Rattle.std.proofs.Common.{◌≡◌, ◌∙◌, ◌∷◌, ◌++◌, [], List, ℕ, length, map, take, sym, ap, arith}
use Rattle.std.proofs.lemmas.List.{map_more, take_all}
use Rattle.board.proofs.table.degrees.Goals as goal

pub loop-n-preserved : goal.loop-n-preserved
loop-n-preserved g c =
    let plan : List (List ℕ) = g.P.Plan.lists c.args.plan.now in
    c.in_ok-push.ensures.items ∙ (λ i. c.loop-n.invariant i ++ c.dependencies.ensures i ∷ []) ∙ sym (map_more length plan c.loop-n.n [] (omega (arith, c.loop-n-test.true, c.nodes-nodes.ensures)))

pub returns : goal.returns
returns g c = let plan : List (List ℕ) = g.P.Plan.lists c.args.plan.now in c.loop-n.invariant ∙ ap (map length) (take_all c.loop-n.n plan (omega (arith, c.loop-n-test.false, c.nodes-nodes.ensures)))

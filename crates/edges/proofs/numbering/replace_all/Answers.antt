use Rattle.std.proofs.Common.{◌≡◌, ℕ, ◌∷◌, ◌++◌, [], true, List, map, get_or, sym, ap, ◌∙◌, subst, arith}
use Rattle.std.specs.Prelude.{slice_index}
use Rattle.std.proofs.lemmas.List.{get_or_read, map_more, take_all}
use Rattle.edges.specs.Rows.{row, has}
use Rattle.edges.specs.Orders.{replaced}
use Rattle.edges.proofs.numbering.replace_all.Goals as goal

pub row-requires : goal.row-requires
row-requires c = record {
  node = omega (arith, get_or_read c.args.order.now c.loop-node.node-index c.node-item.result c.loop-node-test.true c.node-item.is 0, c.requires.nodes c.loop-node.node-index c.loop-node-test.true);
}

pub fill_with-requires : goal.fill_with-requires
fill_with-requires c = record { inside = λ d h. c.requires.inside c.node-item.result d (subst (λ (l : List ℕ). has l d ≡ true) c.row.ensures h) }

pub loop-node-preserved : goal.loop-node-preserved
loop-node-preserved c =
    let given : List (List ℕ) = c.args.given.now in let places : List ℕ = c.args.places.now in
    let here : c.deref.result.now ≡ map (slice_index places) (row given (get_or c.args.order.now c.loop-node.node-index c.node-item.result)) =
    c.deref.ensures.value ∙ c.in_ok-fill_with.ensures ∙ ap (map (slice_index places)) (c.row.ensures ∙ ap (row given) c.node-item.is) in
    c.in_ok-push.ensures ∙ (λ i. c.loop-node.invariant i ++ here i ∷ [])
    ∙ sym (map_more (λ v. map (slice_index places) (row given v)) c.args.order.now c.loop-node.node-index c.node-item.result c.loop-node-test.true)

pub returns : goal.returns
returns c = c.loop-node.invariant ∙ ap (λ (xs : List ℕ). replaced c.args.given.now xs c.args.places.now) (take_all c.loop-node.node-index c.args.order.now c.loop-node-test.false)

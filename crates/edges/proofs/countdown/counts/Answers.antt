use Rattle.std.proofs.Common.{◌≡◌, ℕ, ◌∷◌, ◌++◌, [], List, length, map, get_or, sym, ap, ◌∙◌, arith}
use Rattle.std.proofs.lemmas.List.{map_more, take_all}
use Rattle.edges.specs.Rows.{row}
use Rattle.edges.proofs.countdown.counts.Goals as goal

pub row-requires : goal.row-requires
row-requires c = record { node = omega (arith, c.of.ensures, c.loop-n-test.true, c.len-n-end.ensures) }

pub loop-n-preserved : goal.loop-n-preserved
loop-n-preserved c =
    let deps : List (List ℕ) = c.args.deps.now in
    let here : length c.row.result.now ≡ length (get_or deps c.loop-n.n []) = ap length (c.row.ensures ∙ ap (row deps) c.of.ensures) in
    c.in_ok-push.ensures.items ∙ (λ i. c.loop-n.invariant i ++ here i ∷ []) ∙ sym (map_more length deps c.loop-n.n [] (omega (arith, c.loop-n-test.true, c.len-n-end.ensures)))

pub returns : goal.returns
returns c = c.loop-n.invariant ∙ ap (map length) (take_all c.loop-n.n c.args.deps.now (omega (arith, c.loop-n-test.false, c.len-n-end.ensures)))

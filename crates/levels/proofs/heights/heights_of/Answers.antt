use Rattle.std.proofs.Common.{◌≡◌, ◌∙◌, ◌+◌, ℕ, List, length, map, set, sym, ap, subst, arith}
use Rattle.std.specs.Prelude.{slice_index}
use Rattle.edges.specs.Rows.{row}
use Rattle.loading.specs.Modules.{above_all}
use Rattle.levels.specs.Levels.{IsOrderBy}
use Rattle.levels.proofs.Settling.{IsSettled, settled_more, all_settled}
use Rattle.levels.proofs.heights.heights_of.Goals as goal

by_numbers : (numbers read order items : List ℕ) → read ≡ numbers → items ≡ order → IsOrderBy read order → IsOrderBy numbers items
by_numbers numbers read order items e f by = subst (λ xs. IsOrderBy xs items) e (subst (IsOrderBy read) (sym f) by)

pub loop-n-preserved : goal.loop-n-preserved
loop-n-preserved c =
    let deps = c.args.components.now.deps in
    let numbers = c.args.components.now.numbers in
    let items = c.deref-n-items.result.now in
    let hs = c.loop-n.heights.items in
    let by = by_numbers numbers c.numbers.result.now c.in_ok-order.order.items items c.numbers.ensures.number c.deref-n-items.ensures.value c.in_ok-order.ensures in
    record {
      settled = subst (λ n. IsSettled deps numbers items (c.loop-n.n-index + 1) (set hs n c.height_of-height.result)) c.of.ensures
          (settled_more deps numbers c.numbers.ensures.components items by c.loop-n.n-index c.of.result c.loop-n-test.true c.of.ensures hs c.loop-n.invariant.settled c.height_of-height.result
          c.height_of-height.ensures.cyclic
          (λ off. c.height_of-height.ensures.other off ∙ ap (λ xs. above_all (map (slice_index xs) (row deps c.of.result))) c.deref.ensures.value)
          c.height_of-height.ensures.bounded);
    }

pub returns : goal.returns
returns c =
    let deps = c.args.components.now.deps in
    let numbers = c.args.components.now.numbers in
    let items = c.deref-n-items.result.now in
    let hs = c.loop-n.heights.items in
    let by = by_numbers numbers c.numbers.result.now c.in_ok-order.order.items items c.numbers.ensures.number c.deref-n-items.ensures.value c.in_ok-order.ensures in
    let all : c.loop-n.n-index ≡ length items = omega (arith, c.loop-n-test.false, c.loop-n.auto.n-index-end) in
    all_settled deps numbers c.numbers.ensures.components items by hs (subst (λ k. IsSettled deps numbers items k hs) all c.loop-n.invariant.settled)

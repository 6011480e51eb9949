use Rattle.std.proofs.Common.{◌≡◌, ℕ, ◌+◌, ◌<◌, List, length, get_or, set, arith, rules, sum}
use Rattle.std.proofs.lemmas.List.Sums.{sum_by-set}
use Rattle.edges.proofs.Sorting.{turn_inside, turn_old, turn_touched}
use Rattle.edges.proofs.users.count_row.Goals as goal

-- one more in a count is one more in all
sum_more : (xs : List ℕ) (i all k : ℕ) → i < length xs → sum xs ≡ all + k → sum (set xs i (get_or xs i 0 + 1)) ≡ all + (k + 1)
sum_more xs i all k low is = let e = sum_by-set (λ x. x) xs i (get_or xs i 0 + 1) 0 low in omega (arith, e, is)

pub bounds-counts-number : goal.bounds-counts-number
bounds-counts-number c = turn_inside 0 (λ k. k + 1) c.loop-d.counts c.args.counts.now c.args.list.now c.loop-d.d-index c.d-item.result c.number.result c.requires.distinct c.requires.inside c.loop-d.auto.counts c.loop-d-test.true c.d-item.is c.number.ensures c.loop-d.invariant.each

pub bounds-counts-number-in-loop-d : goal.bounds-counts-number-in-loop-d
bounds-counts-number-in-loop-d c = turn_inside 0 (λ k. k + 1) c.loop-d.counts c.args.counts.now c.args.list.now c.loop-d.d-index c.d-item.result c.number.result c.requires.distinct c.requires.inside c.loop-d.auto.counts c.loop-d-test.true c.d-item.is c.number.ensures c.loop-d.invariant.each

pub offset_bounds-counts-number : goal.offset_bounds-counts-number
offset_bounds-counts-number c =
    let low : c.number.result < length c.loop-d.counts = turn_inside 0 (λ k. k + 1) c.loop-d.counts c.args.counts.now c.args.list.now c.loop-d.d-index c.d-item.result c.number.result c.requires.distinct c.requires.inside c.loop-d.auto.counts c.loop-d-test.true c.d-item.is c.number.ensures c.loop-d.invariant.each in
    search rules

pub overflow_add-counts : goal.overflow_add-counts
overflow_add-counts c =
    let old = turn_old 0 (λ k. k + 1) c.loop-d.counts c.args.counts.now c.args.list.now c.loop-d.d-index c.d-item.result c.number.result c.requires.distinct c.requires.inside c.loop-d.auto.counts c.loop-d-test.true c.d-item.is c.number.ensures c.loop-d.invariant.each in
    omega (arith, old, c.requires.fits c.number.result)

pub loop-d-preserved : goal.loop-d-preserved
loop-d-preserved c =
    let low = turn_inside 0 (λ k. k + 1) c.loop-d.counts c.args.counts.now c.args.list.now c.loop-d.d-index c.d-item.result c.number.result c.requires.distinct c.requires.inside c.loop-d.auto.counts c.loop-d-test.true c.d-item.is c.number.ensures c.loop-d.invariant.each in
    record {
      each = λ d. turn_touched 0 (λ k. k + 1) c.loop-d.counts c.args.counts.now c.args.list.now c.loop-d.d-index c.d-item.result c.number.result c.requires.distinct c.requires.inside c.loop-d.auto.counts c.loop-d-test.true c.d-item.is c.number.ensures c.loop-d.invariant.each (set c.loop-d.counts c.number.result (get_or c.loop-d.counts c.number.result 0 + 1)) (search rules) d;
      all = sum_more c.loop-d.counts c.number.result (sum c.args.counts.now) c.loop-d.d-index low c.loop-d.invariant.all;
    }

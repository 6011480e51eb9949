use Rattle.std.proofs.Common.{◌≡◌, ℕ, ◌+◌, ◌≤◌, sum, ◌∷◌, ◌++◌, [], List, length, map, get_or, ap, ◌∙◌, arith, sym}
use Rattle.std.specs.List.{range_with_len}
use Rattle.std.proofs.lemmas.List.Sums.{sum_by_more_le}
use Rattle.std.proofs.lemmas.List.FromFn.{map-range_with_len_more}
use Rattle.edges.specs.Rooms.{sum_to}
use Rattle.edges.proofs.Filling.{sums_more}
use Rattle.edges.proofs.rooms.layout.Goals as goal

-- the place of one room more
more : (sizes was now : List ℕ) (i k end : ℕ) → k ≡ i → now ≡ was ++ end ∷ [] → was ≡ map (sum_to sizes) (range_with_len 0 i) → end ≡ sum_to sizes i → now ≡ map (sum_to sizes) (range_with_len 0 (k + 1))
more sizes was now i k end same is older at =
    is ∙ ap (λ xs. xs ++ end ∷ []) older ∙ ap (λ e. map (sum_to sizes) (range_with_len 0 i) ++ e ∷ []) at
    ∙ sym (map-range_with_len_more (sum_to sizes) 0 i i (omega arith)) ∙ ap (λ j. map (sum_to sizes) (range_with_len 0 (j + 1))) (sym same)

pub overflow_add-end : goal.overflow_add-end
overflow_add-end c =
    let h : sum_to c.args.sizes.now c.loop-size.size-index + get_or c.args.sizes.now c.loop-size.size-index 0 ≤ sum c.args.sizes.now = sum_by_more_le (λ x. x) c.args.sizes.now c.loop-size.size-index 0 c.loop-size-test.true in
    omega (arith, h, c.loop-size.invariant.end_is, c.requires.total, c.ranges.total)

pub loop-size-preserved : goal.loop-size-preserved
loop-size-preserved c = record {
  starts_are = more c.args.sizes.now c.loop-size.starts.items c.push.new.self.items c.loop-size.size-index c.loop-size.size-index c.loop-size.end (omega arith) c.in_ok-push.ensures.items c.loop-size.invariant.starts_are c.loop-size.invariant.end_is;
  ends_are = more c.args.sizes.now c.loop-size.ends.items c.push-in-loop-size.new.self.items c.loop-size.size-index c.loop-size.size-index c.loop-size.end (omega arith) c.in_ok-push-2.ensures.items c.loop-size.invariant.ends_are c.loop-size.invariant.end_is;
  end_is = ap (λ e. e + get_or c.args.sizes.now c.loop-size.size-index 0) c.loop-size.invariant.end_is ∙ sym (sums_more c.args.sizes.now c.loop-size.size-index c.loop-size-test.true);
}

pub returns-clause-starts : goal.returns-clause-starts
returns-clause-starts c =
    more c.args.sizes.now c.loop-size.starts.items c.push-2.new.self.items c.loop-size.size-index (length c.args.sizes.now) c.loop-size.end (omega (arith, c.loop-size-test.false, c.loop-size.auto.size-index-end)) c.in_ok-push-3.ensures.items c.loop-size.invariant.starts_are c.loop-size.invariant.end_is

pub returns-clause-ends : goal.returns-clause-ends
returns-clause-ends c =
    let all : c.loop-size.size-index ≡ length c.args.sizes.now = omega (arith, c.loop-size-test.false, c.loop-size.auto.size-index-end) in
    c.loop-size.invariant.ends_are ∙ ap (λ (j : ℕ). map (sum_to c.args.sizes.now) (range_with_len 0 j)) all

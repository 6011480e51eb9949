use Rattle.std.proofs.Common.{◌≡◌, ◌∙◌, ◌<◌, length, get_or, sym, ap, arith, rules}
use Rattle.edges.specs.Rows.{row}
use Rattle.edges.proofs.Lists.{from_has}
use Rattle.components.proofs.Resting.{listed, cycle_by, no_cycle_by}
use Rattle.levels.proofs.Settling.{read_at, none_more, height_more, bound_more, below_own}
use Rattle.levels.proofs.heights.height_of.Goals as goal

pub number-requires : goal.number-requires
number-requires c =
    let deps = c.args.components.now.deps in
    let h = listed (row deps c.args.n) c.row-d-items.result.now c.loop-d.d-index c.d-item.result (c.row-d-items.ensures ∙ ap (λ g. row g c.args.n) c.deps.ensures) c.loop-d-test.true c.d-item.is in
    record { node = c.number-own.ensures.components.inside c.args.n c.d-item.result h }

pub returns-then-number-own-clause-other : goal.returns-then-number-own-clause-other
returns-then-number-own-clause-other c off =
    let deps = c.args.components.now.deps in
    let is = c.number-own.ensures.components in
    let h = listed (row deps c.args.n) c.row-d-items.result.now c.loop-d.d-index c.d-item.result (c.row-d-items.ensures ∙ ap (λ g. row g c.args.n) c.deps.ensures) c.loop-d-test.true c.d-item.is in
    let same = sym c.number.ensures.number ∙ c.if-number-own.true ∙ c.number-own.ensures.number in
    absurd (off (cycle_by deps is.inside c.args.components.now.numbers is.components c.args.n c.requires.node c.d-item.result (from_has (row deps c.args.n) c.d-item.result h) same))

pub bounds-heights-number : goal.bounds-heights-number
bounds-heights-number c =
    let deps = c.args.components.now.deps in
    let h = listed (row deps c.args.n) c.row-d-items.result.now c.loop-d.d-index c.d-item.result (c.row-d-items.ensures ∙ ap (λ g. row g c.args.n) c.deps.ensures) c.loop-d-test.true c.d-item.is in
    let low = c.number-own.ensures.components.inside c.args.n c.d-item.result h in
    omega (arith, low, c.requires.size, c.number-in-loop-d.ensures)

pub offset_bounds-heights-number : goal.offset_bounds-heights-number
offset_bounds-heights-number c =
    let deps = c.args.components.now.deps in
    let h = listed (row deps c.args.n) c.row-d-items.result.now c.loop-d.d-index c.d-item.result (c.row-d-items.ensures ∙ ap (λ g. row g c.args.n) c.deps.ensures) c.loop-d-test.true c.d-item.is in
    let low = c.number-own.ensures.components.inside c.args.n c.d-item.result h in
    let inside : c.number-in-loop-d.result < length c.args.heights.now = omega (arith, low, c.requires.size, c.number-in-loop-d.ensures) in
    search rules

pub overflow_add-heights : goal.overflow_add-heights
overflow_add-heights c =
    let deps = c.args.components.now.deps in
    let is = c.number-own.ensures.components in
    let h = listed (row deps c.args.n) c.row-d-items.result.now c.loop-d.d-index c.d-item.result (c.row-d-items.ensures ∙ ap (λ g. row g c.args.n) c.deps.ensures) c.loop-d-test.true c.d-item.is in
    let room = below_own deps c.args.components.now.numbers c.args.heights.now is.components c.requires.bounded c.args.n c.d-item.result h
    (λ same. c.if-number-own.false (c.number.ensures.number ∙ same ∙ sym c.number-own.ensures.number)) in
    let at = ap (λ d. get_or c.args.heights.now d 0) c.number-in-loop-d.ensures in
    omega (arith, room, at, c.number-own.ensures.number, c.number-own.type_inv)

pub loop-d-preserved : goal.loop-d-preserved
loop-d-preserved c =
    let deps = c.args.components.now.deps in
    let is = c.number-own.ensures.components in
    let same = c.row-d-items.ensures ∙ ap (λ g. row g c.args.n) c.deps.ensures in
    let h = listed (row deps c.args.n) c.row-d-items.result.now c.loop-d.d-index c.d-item.result same c.loop-d-test.true c.d-item.is in
    let low : c.loop-d.d-index < length (row deps c.args.n) = omega (arith, c.loop-d-test.true, ap length same) in
    let there = read_at (row deps c.args.n) c.row-d-items.result.now c.loop-d.d-index c.d-item.result same c.loop-d-test.true c.d-item.is in
    let room = below_own deps c.args.components.now.numbers c.args.heights.now is.components c.requires.bounded c.args.n c.d-item.result h
    (λ same. c.if-number-own.false (c.number.ensures.number ∙ same ∙ sym c.number-own.ensures.number)) in
    record {
      none = none_more c.args.components.now.numbers (row deps c.args.n) c.number-own.result c.loop-d.d-index c.d-item.result c.number.result c.loop-d.invariant.none there c.number.ensures.number c.if-number-own.false;
      above = height_more c.args.heights.now (row deps c.args.n) c.loop-d.d-index c.d-item.result c.number-in-loop-d.result c.loop-d.height c.max-height.result low there c.number-in-loop-d.ensures c.loop-d.invariant.above c.max-height.ensures;
      bounded = bound_more c.args.heights.now c.d-item.result c.number-in-loop-d.result c.loop-d.height c.max-height.result c.number-own.result (get_or c.args.components.now.numbers c.args.n 0) c.number-in-loop-d.ensures c.loop-d.invariant.bounded room c.number-own.ensures.number c.max-height.ensures;
    }

pub returns-clause-cyclic : goal.returns-clause-cyclic
returns-clause-cyclic c on =
    let deps = c.args.components.now.deps in
    let is = c.number-own.ensures.components in
    let all : c.loop-d.d-index ≡ length (row deps c.args.n) =
    omega (arith, c.loop-d-test.false, c.loop-d.auto.d-index-end, ap length (c.row-d-items.ensures ∙ ap (λ g. row g c.args.n) c.deps.ensures)) in
    absurd (no_cycle_by deps is.inside c.args.components.now.numbers is.components c.args.n c.requires.node
    (λ i low same. c.loop-d.invariant.none i (omega (arith, low, all)) (same ∙ sym c.number-own.ensures.number)) on)

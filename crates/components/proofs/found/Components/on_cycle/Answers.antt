use Rattle.std.proofs.Common.{◌≡◌, arith, sym, ◌∙◌, length, ap, refl, true≢false}
use Rattle.edges.specs.Rows.{row}
use Rattle.edges.proofs.Lists.{from_has}
use Rattle.components.proofs.Resting.{listed, cycle_by, no_cycle_by}
use Rattle.components.proofs.found.Components.on_cycle.Goals as goal

pub number-requires : goal.number-requires
number-requires c =
    let deps = c.args.self.now.deps in
    let h = listed (row deps c.args.n) c.row-d-items.result.now c.loop-d.d-index c.d-item.result (c.row-d-items.ensures ∙ ap (λ g. row g c.args.n) c.deps.ensures) c.loop-d-test.true c.d-item.is in
    record { node = c.number-own.ensures.components.inside c.args.n c.d-item.result h }

pub returns-then-number-own : goal.returns-then-number-own
returns-then-number-own c =
    let deps = c.args.self.now.deps in
    let is = c.number-own.ensures.components in
    let h = listed (row deps c.args.n) c.row-d-items.result.now c.loop-d.d-index c.d-item.result (c.row-d-items.ensures ∙ ap (λ g. row g c.args.n) c.deps.ensures) c.loop-d-test.true c.d-item.is in
    let same = sym c.number.ensures.number ∙ c.if-number-own.true ∙ c.number-own.ensures.number in
    (λ _. cycle_by deps is.inside c.args.self.now.numbers is.components c.args.n c.requires.node c.d-item.result (from_has (row deps c.args.n) c.d-item.result h) same, λ _. refl)

pub returns : goal.returns
returns c =
    let deps = c.args.self.now.deps in
    let is = c.number-own.ensures.components in
    let all : c.loop-d.d-index ≡ length (row deps c.args.n) =
    omega (arith, c.loop-d-test.false, c.loop-d.auto.d-index-end, ap length (c.row-d-items.ensures ∙ ap (λ g. row g c.args.n) c.deps.ensures)) in
    let none = no_cycle_by deps is.inside c.args.self.now.numbers is.components c.args.n c.requires.node
    (λ i low same. c.loop-d.invariant.none i (omega (arith, low, all)) (same ∙ sym c.number-own.ensures.number)) in
    (λ never. absurd (true≢false (sym never)), λ cycle. absurd (none cycle))

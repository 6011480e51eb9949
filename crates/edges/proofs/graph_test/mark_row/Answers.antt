use Rattle.std.proofs.Common.{◌≡◌, ℕ, ◌<◌, ◌≤◌, ◌∙◌, List, length, get_or, arith, refl, rules}
use Rattle.std.proofs.lemmas.List.{get_or_read}
use Rattle.edges.proofs.Marks.{unmarked, again, marked_more, row_more, outside, empty_row}
use Rattle.edges.proofs.graph_test.mark_row.Goals as goal

pub loop-node-init : goal.loop-node-init
loop-node-init c = record { marked = λ d low. refl; row = empty_row (length c.args.marks.now) }

pub returns-then-d-marks-clause-row : goal.returns-then-d-marks-clause-row
returns-then-d-marks-clause-row c =
    let here : c.number-d.result ≡ get_or c.args.list.now c.loop-node.node-index 0 = c.number-d.ensures ∙ get_or_read c.args.list.now c.loop-node.node-index c.node-item.result c.loop-node-test.true c.node-item.is 0 in (
      λ t. absurd (search rules),
      λ r. absurd (outside c.args.mark c.args.marks.now c.args.list.now c.loop-node.node-index c.number-d.result c.loop-node.marks c.loop-node-test.true here c.loop-node.invariant.marked (omega (arith, c.if-d-marks.true, c.loop-node.auto.marks)) r),
    )

pub returns-then-marks-d-clause-row : goal.returns-then-marks-d-clause-row
returns-then-marks-d-clause-row c =
    let here : c.number-d.result ≡ get_or c.args.list.now c.loop-node.node-index 0 = c.number-d.ensures ∙ get_or_read c.args.list.now c.loop-node.node-index c.node-item.result c.loop-node-test.true c.node-item.is 0 in (
      λ t. absurd (search rules),
      λ r. absurd (again c.args.mark c.args.marks.now c.args.list.now c.loop-node.node-index c.number-d.result c.loop-node.marks c.loop-node-test.true here c.loop-node.invariant.marked c.requires.new (omega (arith, c.if-d-marks.false, c.loop-node.auto.marks)) c.if-marks-d.true r),
    )

pub loop-node-preserved : goal.loop-node-preserved
loop-node-preserved c =
    let first : List ℕ = c.args.marks.now in
    let list : List ℕ = c.args.list.now in
    let i : ℕ = c.loop-node.node-index in
    let d : ℕ = c.number-d.result in
    let here : d ≡ get_or list i 0 = c.number-d.ensures ∙ get_or_read list i c.node-item.result c.loop-node-test.true c.node-item.is 0 in
    let low : d < length first = omega (arith, c.if-d-marks.false, c.loop-node.auto.marks) in
    let new = unmarked c.args.mark first list i d c.loop-node.marks c.loop-node-test.true here c.loop-node.invariant.marked low c.if-marks-d.false in
    record {
      marked = marked_more c.args.mark first list i d c.loop-node.marks c.loop-node-test.true here c.loop-node.invariant.marked c.loop-node.auto.marks low;
      row = row_more c.args.mark first list i d c.loop-node.marks c.loop-node-test.true here c.loop-node.invariant.marked c.loop-node.invariant.row low new;
    }

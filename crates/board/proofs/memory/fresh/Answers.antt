use Rattle.std.proofs.Common.{rules, arith, ◌≡◌, ◌+◌, ◌∙◌, ℕ, length, map, take, ap}
use Rattle.std.proofs.Math.Seq.{take-length}
use Rattle.std.specs.Prelude.{None}
use Rattle.once_cell.specs.Once.{cell_name}
use Rattle.board.specs.Views.{knowns_of}
use Rattle.board.proofs.FlagLists.{tracks_none}
use Rattle.board.proofs.NoteLists.{note_more}
use Rattle.board.proofs.memory.fresh.Goals as goal

pub loop-cell-preserved : goal.loop-cell-preserved
loop-cell-preserved g c =
    let i = c.loop-cell.invariant in let e = c.push_reserved.ensures in
    let more = note_more cell_name c.loop-cell.notes.items c.push_reserved.new.self.items c.note.result c.args.cells.now c.loop-cell.cell-index c.cell-item.result e.items c.loop-cell-test.true c.cell-item.is
    c.note.ensures.0 c.note.ensures.1 i.cells i.knowns in
    record { count = e.len ∙ ap (λ (n : ℕ). n + 1) i.count; room = omega (arith, e.capacity, i.room); cells = more.0; knowns = more.1 }

pub invariant_of-result : goal.invariant_of-result
invariant_of-result g c =
    let cells = c.args.cells.now in let end = c.loop-cell-test.false in let within = c.loop-cell.auto.cell-index-end in
    let all : c.loop-cell.cell-index ≡ length cells = omega arith in
    tracks_none c.in_ok-flags.flags (knowns_of c.loop-cell.notes.items) cells (c.loop-cell.invariant.knowns ∙ ap (map (λ _. None)) (ap (λ (i : ℕ). take i cells) all ∙ take-length cells)) c.in_ok-flags.ensures.room c.in_ok-flags.ensures.down

pub returns : goal.returns
returns g c =
    let cells = c.args.cells.now in let end = c.loop-cell-test.false in let within = c.loop-cell.auto.cell-index-end in
    let all : c.loop-cell.cell-index ≡ length cells = omega arith in let whole = ap (λ (i : ℕ). take i cells) all ∙ take-length cells in
    (c.loop-cell.invariant.cells ∙ ap (map cell_name) whole, c.loop-cell.invariant.knowns ∙ ap (map (λ _. None)) whole)

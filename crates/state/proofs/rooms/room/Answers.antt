use Rattle.std.proofs.Common.{sym, ap, ◌∙◌, subst}
use Rattle.heap.specs.Cells.{list_changed, joined}
use Rattle.values.specs.Seeing.{group_items, item_value}
use Rattle.operations.specs.States.{Gives}
use Rattle.state.specs.Sizes.{made_or_refused}
use Rattle.state.proofs.Sizes.{at_cell, at_none}
use Rattle.state.proofs.rooms.room.Goals as goal

pub returns-in-Some : goal.returns-in-Some
returns-in-Some c =
    let f = joined (group_items c.args.more) in
    subst (λ r. Gives r c.cell_room.result)
    (sym (ap (λ i. made_or_refused (list_changed f c.args.heap.now (item_value i))) c.in-Cell.is
    ∙ at_cell f c.args.heap.now c.in-Cell.number c.in-Some.cell.now (sym c.in-Some.ensures))) c.cell_room.ensures

pub returns-in-None : goal.returns-in-None
returns-in-None c =
    let f = joined (group_items c.args.more) in
    ap (λ i. made_or_refused (list_changed f c.args.heap.now (item_value i))) c.in-Cell.is
    ∙ ap made_or_refused (at_none f c.args.heap.now c.in-Cell.number (sym c.in-None.ensures))

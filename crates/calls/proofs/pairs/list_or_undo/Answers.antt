use Rattle.std.proofs.Common.{take, ap, ◌∙◌}
use Rattle.calls.proofs.Tuples.{cut_back}
use Rattle.calls.proofs.pairs.list_or_undo.Goals as goal

pub returns-in-Err : goal.returns-in-Err
returns-in-Err c =
    let g = c.list_tuples.ensures.grown in
    ((c.truncate.ensures ∙ ap (λ n. take n c.list_tuples.new.state.heap) c.len-cells.ensures ∙ cut_back c.args.state.now c.list_tuples.new.state g, g.1), c.in-Err.ensures.list)

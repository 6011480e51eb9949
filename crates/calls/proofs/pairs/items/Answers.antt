use Rattle.std.proofs.Common.{map, ap, ◌∙◌}
use Rattle.values.specs.Shape.{shape}
use Rattle.values.specs.Visits.{keys_of}
use Rattle.values.specs.declared.value.Value.TheVariants as value
use Rattle.operations.specs.Making.{entries_in}
use Rattle.calls.proofs.Tuples.{dict_does, same_long}
use Rattle.calls.proofs.pairs.items.Goals as goal

pub list_or_undo-requires : goal.list_or_undo-requires
list_or_undo-requires c =
    same_long c.as_slice.result.now c.as_slice-2.result.now (entries_in (shape c.args.state.now.heap c.args.dict.now))
    (c.as_slice.ensures ∙ c.in_ok-keys.ensures ∙ ap (λ w. map value.Key (keys_of (entries_in w))) c.see.ensures)
    (c.as_slice-2.ensures ∙ c.in_ok-values.ensures ∙ ap (λ w. map (λ e. e.1) (entries_in w)) c.see-2.ensures)

pub returns : goal.returns
returns c =
    dict_does c.as_slice.result.now c.as_slice-2.result.now (entries_in (shape c.args.state.now.heap c.args.dict.now)) c.args.state.now c.list_or_undo.new.state c.list_or_undo.result
    (c.as_slice.ensures ∙ c.in_ok-keys.ensures ∙ ap (λ w. map value.Key (keys_of (entries_in w))) c.see.ensures)
    (c.as_slice-2.ensures ∙ c.in_ok-values.ensures ∙ ap (λ w. map (λ e. e.1) (entries_in w)) c.see-2.ensures)
    c.list_or_undo.ensures

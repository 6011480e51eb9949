use Rattle.std.proofs.Common.{ap, sym, ◌∙◌, true, false, map}
use Rattle.values.specs.View.{node_branch}
use Rattle.values.specs.Shape.{items, entries, fields, branch_shape, value_of, slot_of, zip}
use Rattle.values.proofs.SeeLemmas.{tree_list-trees, slot_list-slots, zip-pairs}
use Rattle.values.proofs.frozen.Node.lend.Goals as goal

pub returns-in-List : goal.returns-in-List
returns-in-List c =
    ap (λ l. items true (map value_of l)) (c.as_slice.ensures.value ∙ sym (tree_list-trees c.in-List.items.items)) ∙ ap (λ n. branch_shape (node_branch n)) (sym c.in-List.is)

pub returns-in-Tuple : goal.returns-in-Tuple
returns-in-Tuple c =
    ap (λ l. items false (map value_of l)) (c.as_slice-in-Tuple.ensures.value ∙ sym (tree_list-trees c.in-Tuple.items.items)) ∙ ap (λ n. branch_shape (node_branch n)) (sym c.in-Tuple.is)

pub returns-in-Dict : goal.returns-in-Dict
returns-in-Dict c =
    ap (λ k. entries (zip k.keys c.as_slice-in-Dict.result.now)) c.deref.ensures
    ∙ ap (λ l. entries (zip c.in-Dict.keys.value.keys l)) c.as_slice-in-Dict.ensures.value ∙ ap entries (zip-pairs c.in-Dict.keys.value.keys c.in-Dict.values.items)
    ∙ ap (λ n. branch_shape (node_branch n)) (sym c.in-Dict.is)

pub returns-in-Instance : goal.returns-in-Instance
returns-in-Instance c =
    (λ j. fields (c.get.ensures j) (map slot_of (c.as_slice-in-Instance.ensures.value j)))
    ∙ ap (λ l. fields c.in-Instance.provider (map slot_of l)) (sym (slot_list-slots c.in-Instance.fields.items))
    ∙ ap (λ n. branch_shape (node_branch n)) (sym c.in-Instance.is)

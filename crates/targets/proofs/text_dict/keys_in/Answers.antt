use Rattle.std.proofs.Common.{◌∙◌}
use Rattle.indexmap.specs.IndexSet.{insert_key}
use Rattle.keys.specs.contracts.key.KeyPartialEq.TheImpl.{eq-value}
use Rattle.values.specs.Seeing.{item_value, table_entries}
use Rattle.values.specs.Visits.{keys_of}
use Rattle.values.proofs.KeyListLemmas.{keys-next, key_at-entry, derived-distinct}
use Rattle.targets.proofs.text_dict.keys_in.Goals as goal

-- no key came before, so each is put last
pub loop-place-preserved : goal.loop-place-preserved
loop-place-preserved c =
    let es = table_entries c.args.table in
    let i = c.loop-place.place in
    let k = c.in-Some.key.now in
    c.in_ok-insert.ensures.keys
    ∙ (λ j. insert_key eq-value.it (c.loop-place.invariant j) (c.in_ok-share.ensures j))
    ∙ keys-next (keys_of es) i k (derived-distinct (keys_of es) c.distinct_len-count.ensures.distinct)
    (key_at-entry es i k (item_value c.in-Some.field-0-1) c.in-Some.ensures)

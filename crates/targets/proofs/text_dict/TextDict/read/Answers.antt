use Rattle.std.proofs.Common.{◌≡◌, None, Some, sym, ap, ◌∙◌}
use Rattle.std.proofs.lemmas.Option.{MatchOption-at_none, MatchOption-at_some}
use Rattle.values.specs.Seeing.{table_entries}
use Rattle.values.specs.Tree.{branch}
use Rattle.targets.specs.RuleCalls.{each_of}
use Rattle.targets.specs.TextDicts.{value_frozen}
use Rattle.targets.proofs.TextDicts.{no_entries, entries_read, are_read, dict_read, as_many, entries_distinct, entries_of_dict, is_of_its_entries}
use Rattle.targets.proofs.text_dict.TextDict.read.Goals as goal

pub returns-in_default : goal.returns-in_default
returns-in_default c =
    let h = c.args.heap.now in let xs = table_entries c.args.table in
    sym (no_entries h xs
    (MatchOption-at_none (each_of (value_frozen h) xs ≡ None) (λ ts. each_of (value_frozen h) xs ≡ Some ts.items) c.in_default.is c.in_ok-values.ensures))

pub dict-requires : goal.dict-requires
dict-requires c =
    let h = c.args.heap.now in let xs = table_entries c.args.table in
    as_many h xs c.in-Some.values.items
    (MatchOption-at_some (each_of (value_frozen h) xs ≡ None) (λ ts. each_of (value_frozen h) xs ≡ Some ts.items) c.in-Some.values c.in-Some.is c.in_ok-values.ensures)
    c.in_ok-keys_in.field-0.keys c.in_ok-keys_in.ensures.keys

pub invariant_of-result : goal.invariant_of-result
invariant_of-result c =
    let h = c.args.heap.now in let xs = table_entries c.args.table in let ts = c.in-Some.values.items in
    let e = MatchOption-at_some (each_of (value_frozen h) xs ≡ None) (λ ts. each_of (value_frozen h) xs ≡ Some ts.items) c.in-Some.values c.in-Some.is c.in_ok-values.ensures in
    is_of_its_entries c.of_branch.result (entries_read h xs)
    (c.of_branch.ensures ∙ ap branch (c.in_ok-dict.ensures ∙ dict_read h xs ts e c.in_ok-keys_in.field-0.keys c.in_ok-keys_in.ensures.keys))
    (entries_distinct h xs (entries_read h xs) c.in_ok-keys_in.ensures.distinct (are_read h xs ts e))

pub returns : goal.returns
returns c =
    let h = c.args.heap.now in let xs = table_entries c.args.table in let ts = c.in-Some.values.items in
    let e = MatchOption-at_some (each_of (value_frozen h) xs ≡ None) (λ ts. each_of (value_frozen h) xs ≡ Some ts.items) c.in-Some.values c.in-Some.is c.in_ok-values.ensures in
    ap Some (entries_of_dict c.of_branch.result (entries_read h xs)
    (c.of_branch.ensures ∙ ap branch (c.in_ok-dict.ensures ∙ dict_read h xs ts e c.in_ok-keys_in.field-0.keys c.in_ok-keys_in.ensures.keys)))
    ∙ sym (are_read h xs ts e)

use Rattle.std.proofs.Common.{◌≡◌, None, Some, sym, ap, ◌∙◌}
use Rattle.std.proofs.lemmas.Option.{MatchOption-at_none, MatchOption-at_some}
use Rattle.values.specs.Seeing.{group_items}
use Rattle.targets.specs.RuleCalls.{each_of}
use Rattle.targets.specs.TextLists.{text_frozen}
use Rattle.targets.proofs.TextLists.{no_texts, are_texts, texts_read}
use Rattle.targets.proofs.text_list.TextList.read.Goals as goal

pub list_of-requires : goal.list_of-requires
list_of-requires c =
    let h = c.args.heap.now in let xs = group_items c.args.items in
    are_texts h xs c.in-Some.trees.items
    (MatchOption-at_some (each_of (text_frozen h) xs ≡ None) (λ ts. each_of (text_frozen h) xs ≡ Some ts.items) c.in-Some.trees c.in-Some.is c.in_ok-trees.ensures)

pub returns-in_ok-list_of-in-Some : goal.returns-in_ok-list_of-in-Some
returns-in_ok-list_of-in-Some c =
    let h = c.args.heap.now in let xs = group_items c.args.items in
    ap Some c.in_ok-list_of-in-Some.ensures ∙ texts_read h xs c.in-Some.trees.items
    (MatchOption-at_some (each_of (text_frozen h) xs ≡ None) (λ ts. each_of (text_frozen h) xs ≡ Some ts.items) c.in-Some.trees c.in-Some.is c.in_ok-trees.ensures)

pub returns-in-None : goal.returns-in-None
returns-in-None c =
    let h = c.args.heap.now in let xs = group_items c.args.items in
    sym (no_texts h xs
    (MatchOption-at_none (each_of (text_frozen h) xs ≡ None) (λ ts. each_of (text_frozen h) xs ≡ Some ts.items) c.in-None.is c.in_ok-trees.ensures))

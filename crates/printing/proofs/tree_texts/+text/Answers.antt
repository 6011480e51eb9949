use Rattle.std.specs.Prelude.{codes}
use Rattle.std.proofs.Common.{◌≡◌, ◌+◌, ◌++◌, None, length, string_bytes, arith, refl, sym, ap, ◌∙◌, append_assoc}
use Rattle.std.specs.Iterator.Adapters.{zip_first, zip_second, enumerate_source, enumerate_count}
use Rattle.std.specs.Slice.Iter.{iter_rest}
use Rattle.std.proofs.lemmas.Option.{slice_get_read}
use Rattle.std.proofs.lemmas.Slice.Zip.{either_empty_from_Zip}
use Rattle.depsets.specs.Listed.{walked}
use Rattle.values.specs.Tree.{trees, pairs, slots, weight, branch_weight, weights, pair_weights, slot_weights}
use Rattle.values.specs.View.{tree_of, node_branch}
use Rattle.leaf_texts.specs.Texts.{separator, joined, joined_from, tuple_end, entry_head}
use Rattle.printing.specs.TreeTexts.{how_many, text_by, branch_text_by, texts_by, pair_texts_by, field_texts_by}
use Rattle.printing.proofs.TreeTextLemmas.{appended_last, weight_at, fields-end, how_many-trees, trees-next, trees-end, pairs-next, pairs-end}
use Rattle.leaf_texts.proofs.TextLemmas.{parts-end}
use Rattle.printing.proofs.tree_texts.+text.Goals as goal

-- each part weighs less than the whole
pub put_tree-put_node-requires : goal.put_tree-put_node-requires
put_tree-put_node-requires t c =
    let e = ap weight (sym c.held.ensures ∙ ap tree_of c.in-Branch.is) in
    let f = ap branch_weight c.node.ensures in
    (omega (arith, c.decreases, e, f), tt)

pub put_node-put_trees-requires : goal.put_node-put_trees-requires
put_node-put_trees-requires t c =
    let e = ap (λ n. branch_weight (node_branch n)) c.in-List.is in
    let f = ap (λ l. weights (trees l)) c.as_slice.ensures.value in
    (omega (arith, c.decreases, e, f), tt)

pub put_node-put_trees-requires-in-Tuple : goal.put_node-put_trees-requires-in-Tuple
put_node-put_trees-requires-in-Tuple t c =
    let e = ap (λ n. branch_weight (node_branch n)) c.in-Tuple.is in
    let f = ap (λ l. weights (trees l)) c.as_slice-in-Tuple.ensures.value in
    (omega (arith, c.decreases, e, f), tt)

pub put_node-put_pairs-requires : goal.put_node-put_pairs-requires
put_node-put_pairs-requires t c =
    let e = ap (λ n. branch_weight (node_branch n)) c.in-Dict.is in
    let d = ap (λ k. pair_weights (pairs k.keys c.as_slice-in-Dict.result.now)) c.deref.ensures in
    let f = ap (λ l. pair_weights (pairs c.in-Dict.keys.value.keys l)) c.as_slice-in-Dict.ensures.value in
    (omega (arith, c.decreases, e, d, f), tt)

pub put_node-put_fields-requires : goal.put_node-put_fields-requires
put_node-put_fields-requires t c =
    let e = ap (λ n. branch_weight (node_branch n)) c.in-Instance.is in
    let f = ap (λ l. slot_weights (slots l)) c.as_slice-in-Instance-2.ensures.value in
    (omega (arith, c.decreases, e, f), tt)

pub put_trees-put_tree-requires : goal.put_trees-put_tree-requires
put_trees-put_tree-requires t c =
    let xs = c.args.items.now in
    let there = slice_get_read xs (length xs) c.loop-place.place c.index-items-place.result refl c.loop-place-test.true c.index-items-place.is in
    let h = weight_at xs c.loop-place.place c.index-items-place.result there in
    (omega (arith, c.decreases, h), tt)

pub put_pairs-put_tree-requires : goal.put_pairs-put_tree-requires
put_pairs-put_tree-requires t c =
    let step = c.in-Some.ensures.steps in
    let next = enumerate_source c.next.new.self in
    let now = enumerate_source c.loop-place.place-iterator in
    let h : pair_weights (pairs (iter_rest (zip_first now)) (iter_rest (zip_second now))) ≡ weight c.in-Some.tree.now + pair_weights (pairs (iter_rest (zip_first next)) (iter_rest (zip_second next))) =
    λ j. pair_weights (pairs (step.0.0 j) (step.0.1 j)) in
    (omega (arith, c.decreases, c.loop-place.invariant.light, h), tt)

-- a tuple, with the comma of a single item
pub put_node-returns-in_ok-put_trees-in-Tuple : goal.put_node-returns-in_ok-put_trees-in-Tuple
put_node-returns-in_ok-put_trees-in-Tuple t c =
    let out = string_bytes c.args.out.now in
    let xs = c.in-Tuple.items.items in
    let inner = joined (texts_by walked (trees xs)) in
    let last = tuple_end (how_many (trees xs)) in
    let begun = ap (λ o. o ++ inner) c.in_ok-push_str-in-Tuple.ensures.bytes in
    let written = c.in_ok-put_trees-in-Tuple.ensures ∙ ap (λ l. string_bytes c.push_str-in-Tuple.new.self ++ joined (texts_by walked (trees l))) c.as_slice-in-Tuple.ensures.value ∙ begun in
    let many : c.len.result ≡ how_many (trees xs) = omega (arith, c.len.ensures, how_many-trees xs) in
    let end = c.end_of_tuple.ensures ∙ ap tuple_end many in
    appended_last c.push_str-in-Tuple-2.result _ _ _ _ ((λ j. written j ++ end j)
    ∙ ap (λ o. o ++ last) (append_assoc out (codes "(") inner) ∙ append_assoc out (codes "(" ++ inner) last
    ∙ ap (λ n. out ++ branch_text_by walked (node_branch n)) (sym c.in-Tuple.is)) c.push_str-in-Tuple-2.ensures.bytes

pub put_trees-loop-place-init : goal.put_trees-loop-place-init
put_trees-loop-place-init t c = refl

pub put_trees-loop-place-preserved : goal.put_trees-loop-place-preserved
put_trees-loop-place-preserved t c =
    let xs = c.args.items.now in
    let i = c.loop-place.place in
    let tree = c.index-items-place.result in
    let there = slice_get_read xs (length xs) i tree refl c.loop-place-test.true c.index-items-place.is in
    let out = string_bytes c.loop-place.out in
    let one = text_by walked tree in
    let written = c.in_ok-put_tree.ensures ∙ ap (λ o. o ++ one) c.in_ok-put_separator.ensures ∙ append_assoc out (separator i) one in
    trees-next walked i out xs tree (string_bytes c.put_tree.new.out) there written
    ∙ c.loop-place.invariant

pub put_trees-returns : goal.put_trees-returns
put_trees-returns t c =
    sym (trees-end walked c.loop-place.place (string_bytes c.loop-place.out) c.args.items.now (omega (arith, c.loop-place-test.false))) ∙ c.loop-place.invariant

pub put_pairs-loop-place-preserved : goal.put_pairs-loop-place-preserved
put_pairs-loop-place-preserved t c =
    let step = c.in-Some.ensures.steps in
    let n = enumerate_count c.loop-place.place-iterator in
    let now = enumerate_source c.loop-place.place-iterator in
    let next = enumerate_source c.next.new.self in
    let ks = iter_rest (zip_first now) in let ls = iter_rest (zip_first next) in
    let ts = iter_rest (zip_second now) in let us = iter_rest (zip_second next) in
    let key = c.in-Some.key.now in
    let tree = c.in-Some.tree.now in
    let out = string_bytes c.loop-place.out in
    let before = separator c.in-Some.place in
    let head = entry_head key in
    let one = text_by walked tree in
    let written = c.in_ok-put_tree.ensures ∙ ap (λ o. o ++ one) (c.in_ok-put_head.ensures ∙ ap (λ o. o ++ head) c.in_ok-put_separator.ensures)
    ∙ append_assoc (out ++ before) head one ∙ append_assoc out before (head ++ one)
    ∙ ap (λ m. out ++ (separator m ++ (head ++ one))) step.1 in
    let h : pair_weights (pairs ks ts) ≡ weight tree + pair_weights (pairs ls us) = λ j. pair_weights (pairs (step.0.0 j) (step.0.1 j)) in
    record {
      light = omega (arith, c.loop-place.invariant.light, h);
      text =
          ap (λ m. string_bytes c.put_tree.new.out ++ joined_from m (pair_texts_by walked entry_head (pairs ls us))) step.2
          ∙ pairs-next walked n out entry_head ks ls ts us key tree (string_bytes c.put_tree.new.out) step.0.0 step.0.1 written
          ∙ c.loop-place.invariant.text;
    }

pub put_pairs-returns : goal.put_pairs-returns
put_pairs-returns t c =
    let rest = enumerate_source c.loop-place.place-iterator in
    let spent = either_empty_from_Zip rest (enumerate_source c.next.new.self) None refl c.in-None.ensures.steps.0 in
    sym (pairs-end walked (enumerate_count c.loop-place.place-iterator) (string_bytes c.loop-place.out) entry_head (iter_rest (zip_first rest)) (iter_rest (zip_second rest)) spent)
    ∙ c.loop-place.invariant.text

pub put_fields-returns : goal.put_fields-returns
put_fields-returns t c =
    let rest = c.loop-name.name-iterator in
    let names = iter_rest (zip_first rest) in
    let os = iter_rest (zip_second rest) in
    let spent = either_empty_from_Zip rest c.next.new.self None refl c.in-None.ensures.steps in
    sym (parts-end c.loop-name.written (string_bytes c.loop-name.out) (field_texts_by walked names (slots os)) (fields-end walked names os spent))
    ∙ c.loop-name.invariant.text

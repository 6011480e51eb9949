use Rattle.std.proofs.Common.{◌≡◌, ◌≤◌, ◌++◌, string_bytes, ◌+◌, ◌*◌, drop, length}
use Rattle.std.specs.Iterator.Adapters.{zip_first, zip_second, enumerate_source, enumerate_count}
use Rattle.std.specs.Slice.Iter.{iter_rest}
use Rattle.depsets.specs.Listed.{walked}
use Rattle.values.specs.Tree.{trees, pairs, slots, weight, branch_weight, weights, pair_weights, slot_weights}
use Rattle.values.specs.View.{node_branch}
use Rattle.leaf_texts.specs.Texts.{joined, joined_from, entry_head}
use Rattle.printing.specs.TreeTexts.{texts_by, pair_texts_by, field_texts_by}
use Rattle.printing.proofs.tree_texts.+text.Given as goal

abbrev pub invariant-put_pairs-loop-place : goal.invariant-put_pairs-loop-place
invariant-put_pairs-loop-place l =
    let ks = iter_rest (zip_first (enumerate_source l.place-iterator)) in
    let ts = iter_rest (zip_second (enumerate_source l.place-iterator)) in
    record {
      light : pair_weights (pairs ks ts) ≤ pair_weights (pairs l.keys.keys l.values);
      text : string_bytes l.out ++ joined_from (enumerate_count l.place-iterator) (pair_texts_by walked entry_head (pairs ks ts))
          ≡ string_bytes l.initial.out ++ joined (pair_texts_by walked entry_head (pairs l.keys.keys l.values));
    }

abbrev pub invariant-put_fields-loop-name : goal.invariant-put_fields-loop-name
invariant-put_fields-loop-name l =
    let ns = iter_rest (zip_first l.name-iterator) in
    let os = iter_rest (zip_second l.name-iterator) in
    record {
      room : l.written + length ns ≤ length l.names;
      light : slot_weights (slots os) ≤ slot_weights (slots l.fields);
      text : string_bytes l.out ++ joined_from l.written (field_texts_by walked ns (slots os))
          ≡ string_bytes l.initial.out ++ joined (field_texts_by walked l.names (slots l.fields));
    }

abbrev pub invariant-put_trees-loop-place : goal.invariant-put_trees-loop-place
invariant-put_trees-loop-place l =
    string_bytes l.out ++ joined_from l.place (texts_by walked (trees (drop l.place l.items)))
    ≡ string_bytes l.initial.out ++ joined (texts_by walked (trees l.items))

abbrev pub decreases-put_tree : goal.decreases-put_tree
decreases-put_tree l = 3 * weight l.tree.now + 2

abbrev pub decreases-put_node : goal.decreases-put_node
decreases-put_node l = 3 * branch_weight (node_branch l.node.now) + 1

abbrev pub decreases-put_trees : goal.decreases-put_trees
decreases-put_trees l = 3 * weights (trees l.items.now) + 3

abbrev pub decreases-put_pairs : goal.decreases-put_pairs
decreases-put_pairs l = 3 * pair_weights (pairs l.keys.now.keys l.values.now) + 3

abbrev pub decreases-put_fields : goal.decreases-put_fields
decreases-put_fields l = 3 * slot_weights (slots l.fields.now) + 3

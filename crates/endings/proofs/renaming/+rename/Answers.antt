use Rattle.std.proofs.Common.{◌≡◌, ◌++◌, [], ◌∷◌, length, min, take, refl, arith, sym, subst, ap, ◌∙◌}
use Rattle.std.proofs.lemmas.Option.{slice_get_read}
use Rattle.std.specs.Prelude.{unwrap_or, is_some}
use Rattle.values.specs.Tree.{list, tuple, dict, trees, pairs, branch_weight, weights, pair_weights}
use Rattle.values.specs.View.{node_branch}
use Rattle.printing.proofs.TreeTextLemmas.{weight_at}
use Rattle.evaluation.specs.Naming.{named, slot_named, branch_named}
use Rattle.endings.proofs.Renamed.{neither, unchanged, slot_unchanged, take_next, map_next, trees_by_item, weights_cut, slot_at, made_anew, dict_anew, instance_anew}
use Rattle.endings.proofs.renaming.+rename.Goals as goal

-- each part weighs less than the whole
pub rename_all-rename-requires : goal.rename_all-rename-requires
rename_all-rename-requires t c =
    let xs = c.args.trees.now in
    let i = c.loop-tree.tree-index in
    let x = c.tree-item.result in
    let h = weight_at xs i x (slice_get_read xs (length xs) i x refl c.loop-tree-test.true c.tree-item.is) in
    (omega (arith, c.decreases, h), tt)

pub rename_fields-rename_slot-requires : goal.rename_fields-rename_slot-requires
rename_fields-rename_slot-requires t c =
    let xs = c.args.fields.now in
    let i = c.loop-slot.slot-index in
    let x = c.slot-item.result in
    let h = slot_at xs i x (slice_get_read xs (length xs) i x refl c.loop-slot-test.true c.slot-item.is) in
    (omega (arith, c.decreases, h), tt)

pub rename_all-loop-tree-preserved : goal.rename_all-loop-tree-preserved
rename_all-loop-tree-preserved t c =
    let f = named c.args.naming.now in
    let xs = c.args.trees.now in
    let i = c.loop-tree.tree-index in
    let x = c.tree-item.result in
    let at = slice_get_read xs (length xs) i x refl c.loop-tree-test.true c.tree-item.is in (
      c.in_ok-put.ensures ∙ (λ j. c.loop-tree.invariant.0 j ++ c.in_ok-new.ensures j ∷ []) ∙ map_next f xs i x at,
      λ e. let n = neither c.loop-tree.changed (is_some c.in_ok-new.new) (sym c.or_new-changed.ensures ∙ e) in
          sym (map_next f xs i x at) ∙ (λ j. c.loop-tree.invariant.1 n.0 j ++ (sym c.in_ok-new.ensures ∙ unchanged c.in_ok-new.new x n.1) j ∷ []) ∙ sym (take_next xs i x at),
    )

pub rename_fields-loop-slot-preserved : goal.rename_fields-loop-slot-preserved
rename_fields-loop-slot-preserved t c =
    let f = slot_named c.args.naming.now in
    let xs = c.args.fields.now in
    let i = c.loop-slot.slot-index in
    let x = c.slot-item.result in
    let at = slice_get_read xs (length xs) i x refl c.loop-slot-test.true c.slot-item.is in (
      c.in_ok-put_slot.ensures ∙ (λ j. c.loop-slot.invariant.0 j ++ c.in_ok-new.ensures j ∷ []) ∙ map_next f xs i x at,
      λ e. let n = neither c.loop-slot.changed (is_some c.in_ok-new.new) (sym c.or_new-changed.ensures ∙ e) in
          sym (map_next f xs i x at) ∙ (λ j. c.loop-slot.invariant.1 n.0 j ++ (sym c.in_ok-new.ensures ∙ slot_unchanged c.in_ok-new.new x n.1) j ∷ []) ∙ sym (take_next xs i x at),
    )

pub rename_node-rename_all-requires-in-Dict : goal.rename_node-rename_all-requires-in-Dict
rename_node-rename_all-requires-in-Dict t c =
    let ks = c.deref-keys.result.now.keys in
    let vs = c.in-Dict.values.items in
    let d = ap (λ k. pair_weights (pairs k.keys vs)) c.deref-keys.ensures in
    let e = ap (λ n. branch_weight (node_branch n)) c.in-Dict.is in
    let f = ap (λ l. weights (trees l)) (c.paired.ensures ∙ ap (λ l. take (min (length ks) (length l)) l) c.as_slice-in-Dict.ensures.value) in
    let g = weights_cut ks vs (min (length ks) (length vs)) refl in
    (omega (arith, c.decreases, d, e, f, g), tt)

pub rename_node-returns-in_ok-limb-in-List : goal.rename_node-returns-in_ok-limb-in-List
rename_node-returns-in_ok-limb-in-List t c =
    let ns = c.args.naming.now in
    let parts = c.in_ok-parts-in-List.parts in
    let done = c.in_ok-parts-in-List.ensures in
    subst (λ n. unwrap_or c.in_ok-limb-in-List.limb (node_branch n) ≡ branch_named ns (node_branch n)) (sym c.in-List.is)
    (made_anew (λ l. list (trees l)) (named ns) parts.changed parts.items.items c.as_slice.result.now c.in-List.items.items c.in_ok-limb-in-List.limb
    c.as_slice.ensures.value done.items done.same c.in_ok-limb-in-List.ensures ∙ ap list (trees_by_item ns c.in-List.items.items))

pub rename_node-returns-in_ok-limb-in-Tuple : goal.rename_node-returns-in_ok-limb-in-Tuple
rename_node-returns-in_ok-limb-in-Tuple t c =
    let ns = c.args.naming.now in
    let parts = c.in_ok-parts-in-Tuple.parts in
    let done = c.in_ok-parts-in-Tuple.ensures in
    subst (λ n. unwrap_or c.in_ok-limb-in-Tuple.limb (node_branch n) ≡ branch_named ns (node_branch n)) (sym c.in-Tuple.is)
    (made_anew (λ l. tuple (trees l)) (named ns) parts.changed parts.items.items c.as_slice-in-Tuple.result.now c.in-Tuple.items.items c.in_ok-limb-in-Tuple.limb
    c.as_slice-in-Tuple.ensures.value done.items done.same c.in_ok-limb-in-Tuple.ensures ∙ ap tuple (trees_by_item ns c.in-Tuple.items.items))

pub rename_node-returns-in_ok-limb-in-Dict : goal.rename_node-returns-in_ok-limb-in-Dict
rename_node-returns-in_ok-limb-in-Dict t c =
    let ns = c.args.naming.now in
    let ks = c.deref-keys.result.now.keys in
    let vs = c.in-Dict.values.items in
    let parts = c.in_ok-parts-in-Dict.parts in
    let done = c.in_ok-parts-in-Dict.ensures in
    let cut = c.paired.ensures ∙ ap (λ l. take (min (length ks) (length l)) l) c.as_slice-in-Dict.ensures.value in
    subst (λ n. unwrap_or c.in_ok-limb-in-Dict.limb (node_branch n) ≡ branch_named ns (node_branch n)) (sym c.in-Dict.is)
    (subst (λ k. unwrap_or c.in_ok-limb-in-Dict.limb (dict (pairs k.keys vs)) ≡ branch_named ns (dict (pairs k.keys vs))) c.deref-keys.ensures
    (dict_anew ns ks vs c.in_ok-limb-in-Dict.limb
    (made_anew (λ l. dict (pairs (take (length l) ks) l)) (named ns) parts.changed parts.items.items c.paired.result.now (take (min (length ks) (length vs)) vs) c.in_ok-limb-in-Dict.limb
    cut done.items done.same c.in_ok-limb-in-Dict.ensures)))

pub rename_node-returns-in_ok-limb-in-Instance : goal.rename_node-returns-in_ok-limb-in-Instance
rename_node-returns-in_ok-limb-in-Instance t c =
    let ns = c.args.naming.now in
    let parts = c.in_ok-parts-in-Instance.parts in
    let done = c.in_ok-parts-in-Instance.ensures in
    subst (λ n. unwrap_or c.in_ok-limb-in-Instance.limb (node_branch n) ≡ branch_named ns (node_branch n)) (sym c.in-Instance.is)
    (instance_anew ns c.in-Instance.provider c.in-Instance.fields.items c.as_slice-in-Instance.result.now parts.items.items c.in_ok-maker-in-Instance.maker parts.changed c.in_ok-limb-in-Instance.limb
    c.as_slice-in-Instance.ensures.value c.in_ok-maker-in-Instance.ensures done.items done.same c.in_ok-limb-in-Instance.ensures)

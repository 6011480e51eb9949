use Rattle.std.proofs.Common.{◌∙◌, ap, max}
use Rattle.grammar.specs.TreeView.{tree_of, entry_of, clause_step, expr_step, entry_step, keyword_step}
use Rattle.grammar.specs.declared.tree.Clause.TheFolds.{fold-roll-Entry}
use Rattle.grammar.proofs.Seen.{seen_more, pairs_same}
use Rattle.grammar.proofs.parts.with_pair.Goals as goal

pub returns : goal.returns
returns c =
    let entry = fold-roll-Entry _ _ _ _ clause_step expr_step entry_step keyword_step record { key = c.into_inner.result; value = c.into_inner-2.result } in
    let key = ap (λ k. (tree_of k, tree_of c.into_inner-2.result)) c.into_inner.ensures in
    let value = ap (λ v. (tree_of c.args.pair.0.expr.value, tree_of v)) c.into_inner-2.ensures in
    let depth = c.max-2.ensures ∙ ap (max c.args.found.depth) c.max.ensures in
    pairs_same (seen_more entry_of _ _ c.in_ok-add_one.ensures (entry ∙ (key ∙ value))) depth

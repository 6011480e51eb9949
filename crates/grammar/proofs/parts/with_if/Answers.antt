use Rattle.std.proofs.Common.{◌∙◌, ap}
use Rattle.grammar.specs.Bare.{only_if}
use Rattle.grammar.specs.TreeView.{tree_of, clause_of, clause_step, expr_step, entry_step, keyword_step}
use Rattle.grammar.specs.declared.tree.Clause.TheOpen.{Clause-F}
use Rattle.grammar.specs.declared.tree.Clause.TheFolds.{fold-roll-Clause}
use Rattle.grammar.specs.declared.tree.Clause.TheViews as views
use Rattle.grammar.proofs.Seen.{seen_more, conditions_same}
use Rattle.grammar.proofs.parts.with_if.Goals as goal

pub returns : goal.returns
unfolding views.roll-Clause denote.Hole.Carrier.roll
returns c =
    let clause = fold-roll-Clause _ _ _ _ clause_step expr_step entry_step keyword_step (Clause-F.If c.into_inner.result) in
    let test = ap (λ v. only_if (tree_of v)) c.into_inner.ensures in
    conditions_same (seen_more clause_of _ _ c.in_ok-push.ensures.items (clause ∙ test)) c.max.ensures

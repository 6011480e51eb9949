use Rattle.std.proofs.Common.{◌∙◌, refl, ap}
use Rattle.grammar.specs.TreeView.{tree_of, keyword_of, clause_step, expr_step, entry_step, keyword_step}
use Rattle.grammar.specs.declared.tree.Clause.TheFolds.{fold-roll-Keyword}
use Rattle.grammar.proofs.Seen.{seen_more, arguments_same}
use Rattle.grammar.proofs.parts.with_keyword.Goals as goal

pub returns : goal.returns
returns c =
    let keyword = fold-roll-Keyword _ _ _ _ clause_step expr_step entry_step keyword_step record { name = c.args.name; value = c.into_inner-value.result } in
    let value = ap (λ v. (c.args.name, tree_of v)) c.into_inner-value.ensures in
    arguments_same refl (seen_more keyword_of _ _ c.in_ok-add_one.ensures (keyword ∙ value)) c.max.ensures refl

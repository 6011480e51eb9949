use Rattle.std.proofs.Common.{◌≡◌, ◌∷◌, Some, map, sym, ap, ◌∙◌}
use Rattle.std.specs.Option.{option_map}
use Rattle.grammar.specs.Bare as bare
use Rattle.grammar.specs.TreeView.{clause_of, tree_of, clause_step, expr_step, entry_step, keyword_step}
use Rattle.grammar.specs.declared.tree.Clause.TheOpen.{Clause-F}
use Rattle.grammar.specs.declared.tree.Clause.TheFolds.{fold-roll-Clause}
use Rattle.program_tree.specs.ProgramView as view
use Rattle.program_tree.specs.ProgramView.{round_step, term_step, argument_step, pair_step}
use Rattle.program_tree.specs.declared.program.Round.TheOpen.{Round-F}
use Rattle.program_tree.specs.declared.program.Round.TheFolds.{fold-roll-Round}
use Rattle.program_tree.specs.Resolved as resolved
use Rattle.syntax.specs.Resolves.{first_tree}
use Rattle.grammar.specs.declared.tree.Clause as X
use Rattle.program_tree.specs.declared.program.Round as Y
use Rattle.syntax.proofs.resolver.round.Goals as goal

pub returns-in_ok-names-in-For : goal.returns-in_ok-names-in-For
unfolding X.roll-Clause Y.roll-Round denote.Hole.Carrier.roll
returns-in_ok-names-in-For c s r e =
    let around = c.args.scope.now in
    let behind = resolved.rounds around around r in
    let names = c.in_ok-names-in-For.names in
    let bound = c.in_ok-names-in-For.ensures in
    let others = c.as_slice.ensures.value in
    let seen : clause_of c.args.clause.now ≡ bare.for_each c.in-For.first c.in-For.others.items (tree_of c.in-For.field-2) = ap clause_of c.in-For.is ∙ fold-roll-Clause _ _ _ _ clause_step expr_step entry_step keyword_step (Clause-F.For c.in-For.first c.in-For.others c.in-For.field-2) in
    let operand : Some (resolved.term s (tree_of c.in-For.field-2)) ≡ Some (view.term c.args.operand) = ap (λ k. option_map (resolved.term s) (first_tree (k r))) (sym seen) ∙ e in
    let items : names.items ≡ map (resolved.binding_of around) (c.in-For.first ∷ c.in-For.others.items) = cc in
    let same : resolved.for_each names.items (view.term c.args.operand) behind ≡ resolved.for_each (map (resolved.binding_of around) (c.in-For.first ∷ c.in-For.others.items)) (resolved.term s (tree_of c.in-For.field-2)) behind = cc in
    ap (λ k. k behind) (fold-roll-Round _ _ _ _ round_step term_step argument_step pair_step (Round-F.For names c.args.operand))
    ∙ same
    ∙ ap (λ k. resolved.rounds s around (k r)) (sym seen)

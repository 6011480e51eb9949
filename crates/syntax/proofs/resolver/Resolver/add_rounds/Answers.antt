use Rattle.std.proofs.Common.{arith, ◌≤◌, ◌&&◌, ◌+◌, ◌∙◌, ap, drop, map, subst, sym}
use Rattle.program_tree.specs.ProgramView as view
use Rattle.program_tree.specs.ProgramView.{rounds_onto}
use Rattle.program_tree.specs.Resolved as resolved
use Rattle.file_syntax.specs.Scopes.{rest_scoped, scoped}
use Rattle.grammar.specs.BareDepth.{rest_depth}
use Rattle.grammar.specs.TreeView.{clause_of, rests, tree_of}
use Rattle.std.specs.Prelude.{Some, option_map}
use Rattle.scopes.proofs.NameLemmas.{drop_at}
use Rattle.syntax.proofs.ProgramLemmas.{onto_last}
use Rattle.syntax.proofs.resolver.Resolver.add_rounds.Goals as goal

pub loop-clause-preserved : goal.loop-clause-preserved
loop-clause-preserved g c =
    let s = c.args.scope.now in
    let here = drop_at c.args.clauses.now c.loop-clause.clause-index c.clause-item.result (omega (arith, c.loop-clause-test.true)) c.clause-item.is in
    let rest = rests (drop (c.loop-clause.clause-index + 1) c.args.clauses.now) in
    let found = map view.round c.loop-clause.found.items in
    let e = tree_of c.operand.result.now in
    let same = c.loop-clause.invariant.2 in
    let behind = c.in_ok-value.ensures.2 ∙ same in
    let deep = subst (λ d. rest_depth (rests d) ≤ c.args.self.now.turns) here c.loop-clause.invariant.3 in
    let parts = c.operand.ensures.depth rest in
    let kept = sym (ap (λ v. scoped v e) same) ∙ c.in_ok-value.ensures.0 in
    let term = c.in_ok-value.ensures.1 ∙ ap (λ v. resolved.term v e) same in
    let made = c.in_ok-made.ensures s rest (ap (option_map (resolved.term s)) (c.operand.ensures.first rest) ∙ ap Some (sym term)) in
    let round = ap (λ v. view.round c.in_ok-made.made (resolved.rounds v v rest)) (sym behind) ∙ made ∙ ap (λ v. resolved.rounds s v (clause_of c.clause-item.result rest)) behind in (
      ap (λ b. b && rest_scoped s s rest) (sym kept)
          ∙ sym (c.operand.ensures.scoped s s rest)
          ∙ ap (λ d. rest_scoped s s (rests d)) (sym here)
          ∙ c.loop-clause.invariant.0,
      ap (λ ks. rounds_onto (map view.round ks) (resolved.rounds s s rest)) c.in_ok-push.ensures.items
          ∙ onto_last (λ f r. f r) view.round c.loop-clause.found.items c.in_ok-made.made (resolved.rounds s s rest)
          ∙ ap (rounds_onto found) round
          ∙ ap (λ d. rounds_onto found (resolved.rounds s s (rests d))) (sym here)
          ∙ c.loop-clause.invariant.1,
      behind,
      omega (arith, deep, parts),
    )

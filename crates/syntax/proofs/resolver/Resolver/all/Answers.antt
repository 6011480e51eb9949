use Rattle.std.proofs.Common.{arith, ◌≤◌, ◌&&◌, ◌+◌, ◌∙◌, ap, drop, map, subst, sym}
use Rattle.program_tree.specs.ProgramView as view
use Rattle.program_tree.specs.ProgramView.{terms_onto}
use Rattle.program_tree.specs.Resolved as resolved
use Rattle.file_syntax.specs.Scopes.{scoped, trees_scoped}
use Rattle.grammar.specs.BareDepth.{trees_depth}
use Rattle.grammar.specs.TreeView.{tree_of, trees}
use Rattle.scopes.proofs.NameLemmas.{drop_at}
use Rattle.syntax.proofs.ProgramLemmas.{onto_last}
use Rattle.syntax.proofs.resolver.Resolver.all.Goals as goal

pub loop-expr-preserved : goal.loop-expr-preserved
loop-expr-preserved g c =
    let s = c.args.scope.now in
    let here = drop_at c.args.exprs.now c.loop-expr.expr-index c.expr-item.result (omega (arith, c.loop-expr-test.true)) c.expr-item.is in
    let e = tree_of c.expr-item.result in
    let rest = trees (drop (c.loop-expr.expr-index + 1) c.args.exprs.now) in
    let found = map view.term c.loop-expr.found.items in
    let same = c.loop-expr.invariant.2 in
    let told = c.in_ok-term.ensures in
    let deep = subst (λ d. trees_depth (trees d) ≤ c.args.self.now.turns) here c.loop-expr.invariant.3 in
    let kept = sym (ap (λ v. scoped v e) same) ∙ told.0 in (
      ap (λ b. b && trees_scoped s rest) (sym kept)
          ∙ ap (λ d. trees_scoped s (trees d)) (sym here)
          ∙ c.loop-expr.invariant.0,
      ap (λ ts. terms_onto (map view.term ts) (resolved.terms s rest)) c.in_ok-push.ensures.items
          ∙ onto_last resolved.more_terms view.term c.loop-expr.found.items c.in_ok-term.term (resolved.terms s rest)
          ∙ ap (λ t. terms_onto found (resolved.more_terms t (resolved.terms s rest))) (told.1 ∙ ap (λ v. resolved.term v e) same)
          ∙ ap (λ d. terms_onto found (resolved.terms s (trees d))) (sym here)
          ∙ c.loop-expr.invariant.1,
      told.2 ∙ same,
      omega (arith, deep),
    )

use Rattle.std.proofs.Common.{arith, ◌≤◌, ◌&&◌, ◌+◌, ◌∙◌, ap, drop, map, subst, sym}
use Rattle.program_tree.specs.ProgramView as view
use Rattle.program_tree.specs.ProgramView.{keywords_onto}
use Rattle.program_tree.specs.Resolved as resolved
use Rattle.file_syntax.specs.Scopes.{keywords_scoped, scoped}
use Rattle.grammar.specs.Bare as bare
use Rattle.grammar.specs.BareDepth.{keywords_depth}
use Rattle.grammar.specs.TreeView.{keywords, tree_of}
use Rattle.scopes.proofs.NameLemmas.{drop_at}
use Rattle.syntax.proofs.ProgramLemmas.{onto_last}
use Rattle.syntax.proofs.resolver.Resolver.arguments.Goals as goal

pub loop-argument-preserved : goal.loop-argument-preserved
loop-argument-preserved g c =
    let s = c.args.scope.now in
    let here = drop_at c.args.named.now c.loop-argument.argument-index c.argument-item.result (omega (arith, c.loop-argument-test.true)) c.argument-item.is in
    let rest = keywords (drop (c.loop-argument.argument-index + 1) c.args.named.now) in
    let after = resolved.keywords s rest in
    let found = map view.argument c.loop-argument.found.items in
    let x = c.named_value-read.result.0.now in
    let v = tree_of c.named_value-read.result.1.now in
    let same = c.loop-argument.invariant.2 in
    let kept = sym (ap (λ t. scoped t v) same) ∙ c.in_ok-value.ensures.0 in
    let written = ap keywords here ∙ ap (λ p. bare.more_keywords p.0 p.1 rest) c.named_value-read.ensures in
    let deep = subst (λ ks. keywords_depth ks ≤ c.args.self.now.turns) written c.loop-argument.invariant.3 in (
      ap (λ b. b && keywords_scoped s rest) (sym kept)
          ∙ ap (keywords_scoped s) (sym written)
          ∙ c.loop-argument.invariant.0,
      ap (λ ts. keywords_onto (map view.argument ts) after) c.in_ok-push.ensures.items
          ∙ onto_last (λ p r. resolved.more_keywords p.0 p.1 r) view.argument c.loop-argument.found.items c.keyword-made.result after
          ∙ ap (λ p. keywords_onto found (resolved.more_keywords p.0 p.1 after)) c.keyword-made.ensures
          ∙ ap (λ y. keywords_onto found (resolved.more_keywords y (view.term c.in_ok-value.value) after)) c.in_ok-name.ensures
          ∙ ap (λ b. keywords_onto found (resolved.more_keywords x b after)) (c.in_ok-value.ensures.1 ∙ ap (λ t. resolved.term t v) same)
          ∙ ap (λ ks. keywords_onto found (resolved.keywords s ks)) (sym written)
          ∙ c.loop-argument.invariant.1,
      c.in_ok-value.ensures.2 ∙ same,
      omega (arith, deep),
    )

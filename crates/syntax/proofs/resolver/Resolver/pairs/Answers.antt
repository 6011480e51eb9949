use Rattle.std.proofs.Common.{arith, ◌≤◌, ◌&&◌, ◌+◌, ◌∙◌, ap, drop, map, subst, sym}
use Rattle.program_tree.specs.ProgramView as view
use Rattle.program_tree.specs.ProgramView.{pairs_onto}
use Rattle.program_tree.specs.Resolved as resolved
use Rattle.program_tree.specs.Resolved.{more_pairs}
use Rattle.file_syntax.specs.Scopes.{entries_scoped, scoped}
use Rattle.grammar.specs.Bare.{more_entries}
use Rattle.grammar.specs.BareDepth.{entries_depth}
use Rattle.grammar.specs.TreeView.{entries, tree_of}
use Rattle.scopes.proofs.NameLemmas.{drop_at}
use Rattle.syntax.proofs.ProgramLemmas.{onto_last}
use Rattle.syntax.proofs.resolver.Resolver.pairs.Goals as goal

pub loop-pair-preserved : goal.loop-pair-preserved
loop-pair-preserved g c =
    let s = c.args.scope.now in
    let here = drop_at c.args.written.now c.loop-pair.pair-index c.pair-item.result (omega (arith, c.loop-pair-test.true)) c.pair-item.is in
    let rest = entries (drop (c.loop-pair.pair-index + 1) c.args.written.now) in
    let after = resolved.pairs s rest in
    let found = map view.pair c.loop-pair.found.items in
    let k = tree_of c.parts_of-read.result.0.now in
    let v = tree_of c.parts_of-read.result.1.now in
    let same = c.loop-pair.invariant.2 in
    let behind_key = c.in_ok-key.ensures.2 ∙ same in
    let key = sym (ap (λ t. scoped t k) same) ∙ c.in_ok-key.ensures.0 in
    let value = sym (ap (λ t. scoped t v) behind_key) ∙ c.in_ok-value.ensures.0 in
    let written = ap entries here ∙ ap (λ p. more_entries p.0 p.1 rest) c.parts_of-read.ensures in
    let deep = subst (λ es. entries_depth es ≤ c.args.self.now.turns) written c.loop-pair.invariant.3 in (
      ap (λ b. b && entries_scoped s rest) (sym value)
          ∙ ap (λ b. b && (scoped s v && entries_scoped s rest)) (sym key)
          ∙ ap (entries_scoped s) (sym written)
          ∙ c.loop-pair.invariant.0,
      ap (λ ts. pairs_onto (map view.pair ts) after) c.in_ok-push.ensures.items
          ∙ onto_last (λ p r. more_pairs p.0 p.1 r) view.pair c.loop-pair.found.items c.entry-made.result after
          ∙ ap (λ p. pairs_onto found (more_pairs p.0 p.1 after)) c.entry-made.ensures
          ∙ ap (λ a. pairs_onto found (more_pairs a (view.term c.in_ok-value.value) after)) (c.in_ok-key.ensures.1 ∙ ap (λ t. resolved.term t k) same)
          ∙ ap (λ b. pairs_onto found (more_pairs (resolved.term s k) b after)) (c.in_ok-value.ensures.1 ∙ ap (λ t. resolved.term t v) behind_key)
          ∙ ap (λ es. pairs_onto found (resolved.pairs s es)) (sym written)
          ∙ c.loop-pair.invariant.1,
      c.in_ok-value.ensures.2 ∙ behind_key,
      omega (arith, deep),
    )

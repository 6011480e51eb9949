use Rattle.std.proofs.Common.{◌≤◌, ◌∙◌, ◌∷◌, ◌++◌, ap, subst, sym}
use Rattle.grammar.specs.BareDepth.{lines_depth}
use Rattle.grammar.specs.LineView.{lines}
use Rattle.syntax.specs.Resolves.{IsLater, before_lines}
use Rattle.scopes.proofs.NameLemmas.{append_more}
use Rattle.syntax.proofs.DepthLemmas.{last_depth}
use Rattle.syntax.proofs.steps.resolve_owned.Goals as goal

pub loop-line-preserved : goal.loop-line-preserved
loop-line-preserved c =
    let was = c.loop-line.invariant in
    let s = c.args.scope.now in
    let x = c.in-Some.line in
    let behind = was.0 in
    let deep = last_depth c.pop.new.self.items x 200 (subst (λ ls. lines_depth (lines ls) ≤ 200) c.in-Some.ensures.items was.4) in
    let made = c.in_ok-later.later in
    let told = c.in_ok-later.ensures.made c.loop-line.scope c.line_and_block-own.new.scope (lines behind) c.line_and_block-own.ensures (subst (λ v. IsLater v (lines behind) c.loop-line.later) (sym was.3) was.2) in (
      x ∷ behind,
      sym (append_more c.pop.new.self.items x behind) ∙ ap (λ l. l ++ behind) (sym c.in-Some.ensures.items) ∙ was.1,
      subst (λ ls. IsLater s ls made) (sym (c.in_ok-later.ensures.seen (lines behind))) (subst (λ v. IsLater v (before_lines x (lines behind)) made) was.3 told.0),
      told.1 ∙ was.3,
      deep.1,
    )

pub line_and_block-own-requires : goal.line_and_block-own-requires
line_and_block-own-requires c =
    let deep = subst (λ ls. lines_depth (lines ls) ≤ 200) c.in-Some.ensures.items c.loop-line.invariant.4 in
    (last_depth c.pop.new.self.items c.in-Some.line 200 deep).0

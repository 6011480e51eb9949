use Rattle.std.proofs.Common.{◌≡◌, ◌<◌, ◌∙◌, ◌∷◌, ◌-◌, suc, ap, drop, length, subst, sym, arith}
use Rattle.std.proofs.Math.Seq.{drop-cons}
use Rattle.grammar.specs.BareDepth.{lines_depth}
use Rattle.grammar.specs.LineView.{lines}
use Rattle.syntax.specs.Resolves.{IsLater, before_lines}
use Rattle.syntax.proofs.DepthLemmas.{count, count_before, depth_before}
use Rattle.syntax.proofs.steps.+blocks.Goals as goal

pub resolve_lines-loop-left-preserved : goal.resolve_lines-loop-left-preserved
resolve_lines-loop-left-preserved t c =
    let was = c.loop-left.invariant in
    let s = c.args.scope.now in
    let all = c.args.lines.now in
    let left = c.loop-left.left in
    let x = c.index-lines-left.result in
    let made = c.in_ok-later.later in
    let within : left - 1 < length all = omega (arith, c.loop-left-test.true, was.0) in
    let next : suc (left - 1) ≡ left = omega (arith, c.loop-left-test.true) in
    let at : drop (left - 1) all ≡ x ∷ drop left all =
    drop-cons all (left - 1) x within
    ∙ ap (λ y. y ∷ drop (suc (left - 1)) all) (sym c.index-lines-left.is)
    ∙ ap (λ n. x ∷ drop n all) next in
    let rest = lines (drop left all) in
    let here : lines (drop (left - 1) all) ≡ before_lines x rest = ap lines at ∙ c.in_ok-later.ensures.seen rest in
    let told = c.in_ok-later.ensures.made c.loop-left.scope c.line_and_block-own.new.scope rest c.line_and_block-own.ensures (subst (λ v. IsLater v rest c.loop-left.later) (sym was.2) was.1) in (
      omega (arith, was.0),
      subst (λ ls. IsLater s ls made) (sym here) (subst (λ v. IsLater v (before_lines x rest) made) was.2 told.0),
      told.1 ∙ was.2,
    )

pub resolve_lines-line_and_block-own-requires : goal.resolve_lines-line_and_block-own-requires
resolve_lines-line_and_block-own-requires t c =
    let all = c.args.lines.now in
    let left = c.loop-left.left in
    let x = c.index-lines-left.result in
    let fewer = count_before x all left c.index-lines-left.is c.loop-left-test.true c.loop-left.invariant.0 in
    let deep = depth_before x all left 200 c.index-lines-left.is c.requires c.loop-left-test.true c.loop-left.invariant.0 in
    (omega (arith, fewer), deep)

pub line_and_block-resolve_lines-inside-requires : goal.line_and_block-resolve_lines-inside-requires
line_and_block-resolve_lines-inside-requires t c =
    let block = c.block_of-block.ensures.block in
    let fewer = ap (λ ls. count (lines ls)) block in
    let deep = ap (λ ls. lines_depth (lines ls)) block in
    (omega (arith, fewer), omega (arith, deep, c.requires))

use Rattle.std.proofs.Common.{◌++◌, Some, sym, ap, ◌∙◌, refl, arith}
use Rattle.values.specs.Seeing.{group_items}
use Rattle.evaluator.proofs.Turning.{turned}
use Rattle.evaluator.proofs.stacks.unpack.Goals as goal

pub loop-place-preserved : goal.loop-place-preserved
loop-place-preserved c = record {
  within = omega (arith, c.loop-place.invariant.within);
  behind = turned (λ l. l ++ c.args.onto.now) (λ v. v) (λ x xs. refl) (group_items c.args.group) c.loop-place.onto c.push.new.self
      c.loop-place.place c.in_ok-operand.field-0 c.loop-place-test.true c.in_ok-operand.ensures
      c.loop-place.invariant.behind c.in_ok-push.ensures;
}

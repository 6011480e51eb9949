use Rattle.std.proofs.Common.{rules, sym, ap, length, arith, w64}
use Rattle.std.proofs.lemmas.Int.{ints}
use mir.Val.{SFits}
use Rattle.numbers.proofs.Steps.{step}
use Rattle.numbers.proofs.ranges.RangeNumbersIterator.next.Goals as goal

pub returns-clause-steps : goal.returns-clause-steps
returns-clause-steps c =
    let f : SFits w64 c.self.inside.next = search rules in
    let g : SFits w64 c.self.inside.end = search rules in
    step c.args.self.now c.self.inside.next c.self.inside.end _ _ (sym c.self.view_is) (omega (arith, ints, c.if-self.false)) (omega (arith, ints)) (omega (arith, ints, c.if-self.false))

pub returns-clause-goes : goal.returns-clause-goes
returns-clause-goes c = record {
  on = λ f. (tt, tt, omega (arith, ap length (returns-clause-steps c)));
  keeps = tt;
  rests = λ f. tt;
}

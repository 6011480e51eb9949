use Rattle.workspace.specs.Labels.{same_label}
use Rattle.graph.specs.Same.{same_label-decides, no_label}
use Rattle.graph.proofs.Growth.{grown_next, numbers_next}
use Rattle.graph.proofs.numbers.Numbers.number_all.Goals as goal

pub loop-label-preserved : goal.loop-label-preserved
loop-label-preserved c = record {
  grown = grown_next same_label same_label-decides no_label c.args.self.now c.loop-label.self c.number.new.self c.args.labels.now c.loop-label.label-index c.label-item.result c.loop-label-test.true c.label-item.is c.loop-label.invariant.grown c.number.ensures.grown;
  numbers = numbers_next same_label same_label-decides no_label c.loop-label.self c.number.new.self c.args.labels.now c.loop-label.numbers.items c.push.new.self.items c.loop-label.label-index c.in_ok-number.number c.label-item.result c.loop-label-test.true
      c.label-item.is c.number.ensures.grown c.loop-label.invariant.numbers c.in_ok-number.ensures.inside c.in_ok-number.ensures.number c.in-Ok.ensures.items;
  within = c.in_ok-number.ensures.within;
}

use Rattle.std.proofs.Common.{sym}
use Rattle.workspace.specs.Labels.{same_label}
use Rattle.graph.specs.Same.{same_label-decides, no_label}
use Rattle.graph.proofs.Growth.{number_found}
use Rattle.graph.proofs.numbers.Numbers.number.Goals as goal

pub returns-in-Some-clause-number : goal.returns-in-Some-clause-number
returns-in-Some-clause-number c =
    number_found same_label same_label-decides no_label c.args.self.now c.self.inside.nodes.keys c.get.result.now c.args.label.now c.in-Some.number c.of.result c.self.view_is c.get.ensures c.of.ensures (sym c.in-Some.ensures.index)

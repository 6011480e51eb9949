use Rattle.std.proofs.Common.{◌≤◌, length, take}
use Rattle.workspace.specs.Labels.{same_label}
use Rattle.graph.specs.Same.{no_label}
use Rattle.graph.specs.Numbering.{Grown, AreNumbers}
use Rattle.graph.proofs.numbers.Numbers.number_all.Given as goal

abbrev pub invariant-loop-label : goal.invariant-loop-label
invariant-loop-label l = record {
  grown : Grown same_label l.initial.self l.labels l.self;
  numbers : AreNumbers no_label l.self (take l.label-index l.labels) l.numbers.items;
  within : length l.self ≤ l.limit;
}

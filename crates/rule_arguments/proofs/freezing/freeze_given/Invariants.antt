use Rattle.std.proofs.Common.{◌≡◌, drop}
use Rattle.rule_arguments.specs.Freezing.{frozen_for}
use Rattle.rule_arguments.proofs.freezing.freeze_given.Given as goal

abbrev pub invariant-loop-attribute : goal.invariant-loop-attribute
invariant-loop-attribute l =
    frozen_for (drop l.attribute-index l.attributes) l.arguments l.heap l.ticks
    ≡ frozen_for l.attributes l.arguments l.heap l.initial.ticks

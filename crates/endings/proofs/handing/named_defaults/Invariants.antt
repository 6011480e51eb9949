use Rattle.std.proofs.Common.{◌≡◌, map, take}
use Rattle.values.specs.Shape.{value_of}
use Rattle.evaluation.specs.Naming.{named}
use Rattle.endings.proofs.handing.named_defaults.Given as goal

abbrev pub invariant-loop-trees : goal.invariant-loop-trees
invariant-loop-trees l = l.all ≡ map (map (λ t. value_of (named l.naming t))) (take l.trees-index l.defaults)

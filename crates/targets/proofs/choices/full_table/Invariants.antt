use Rattle.std.proofs.Common.{take}
use Rattle.targets.specs.Choosing.{HasAll}
use Rattle.targets.proofs.choices.full_table.Given as goal

abbrev pub invariant-loop-key : goal.invariant-loop-key
invariant-loop-key l = HasAll (take l.key-index l.listed) l.table.keys

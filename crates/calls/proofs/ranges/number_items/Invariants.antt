use Rattle.std.proofs.Common.{◌≡◌, ◌++◌, map}
use Rattle.operations.specs.Making.{number}
use Rattle.calls.proofs.ranges.number_items.Given as goal

abbrev pub invariant-loop-number : goal.invariant-loop-number
invariant-loop-number l = l.items ++ map number l.number-iterator ≡ map number l.fn.numbers

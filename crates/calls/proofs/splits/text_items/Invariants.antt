use Rattle.std.proofs.Common.{◌≡◌, ◌++◌, drop, map}
use Rattle.operations.specs.Making.{text}
use Rattle.calls.proofs.splits.text_items.Given as goal

abbrev pub invariant-loop-text : goal.invariant-loop-text
invariant-loop-text l = l.items ++ map text (drop l.text-index l.texts) ≡ map text l.texts

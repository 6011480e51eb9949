use Rattle.std.proofs.Common.{◌≡◌, take}
use Rattle.reporting.specs.Seen.{text_of}
use Rattle.reporting.proofs.made.joined.Given as goal

abbrev pub invariant-loop-text : goal.invariant-loop-text
invariant-loop-text l = l.bytes.items ≡ text_of (take l.text-index l.texts)

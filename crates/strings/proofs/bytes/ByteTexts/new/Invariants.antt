use Rattle.std.proofs.Common.{◌≡◌}
use Rattle.strings.specs.Indexes.{byte_texts}
use Rattle.strings.proofs.bytes.ByteTexts.new.Given as goal

abbrev pub invariant-loop-byte : goal.invariant-loop-byte
invariant-loop-byte l = l.texts.items ≡ byte_texts l.byte

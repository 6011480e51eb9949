use Rattle.std.proofs.Common.{arith}
use Rattle.strings.proofs.Singles.{all_texts}
use Rattle.strings.proofs.bytes.ByteTexts.new.Goals as goal

pub invariant_of-result : goal.invariant_of-result
invariant_of-result c =
    all_texts c.loop-byte.byte c.loop-byte.texts.items c.loop-byte.invariant
    (let t = c.loop-byte-test.false in let e = c.loop-byte.auto.byte-end in omega arith)

use Rattle.strings.proofs.Singles.{found_text}
use Rattle.strings.proofs.bytes.ByteTexts.get.Goals as goal

pub returns : goal.returns
returns c = found_text 128 c.args.byte c.from.result c.self.inside.texts.items c.index.result.now c.self.invariant c.requires c.from.ensures c.index.ensures

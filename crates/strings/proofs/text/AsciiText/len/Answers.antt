use Rattle.std.proofs.Common.{arith}
use Rattle.strings.proofs.Ascii.{text_short}
use Rattle.strings.proofs.text.AsciiText.len.Goals as goal

pub returns-clause-limit : goal.returns-clause-limit
returns-clause-limit c = let l = text_short c.self.inside.text c.self.invariant in omega (arith, l, c.len.ensures)

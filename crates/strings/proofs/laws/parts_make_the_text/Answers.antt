use Rattle.strings.proofs.Firsts.{parts_end}
use Rattle.strings.proofs.Meanings.{parts_make}
use Rattle.strings.proofs.laws.parts_make_the_text.Goals as goal

pub returns : goal.returns
returns c = record { whole = parts_make; firsts = parts_end }

use Rattle.std.proofs.Common.{rules}
use Rattle.strings.proofs.Ascii.{long_is_none, short_is}
use Rattle.strings.proofs.text.is_of_the_language.Goals as goal

pub returns-then-text-gt-MOST_BYTES : goal.returns-then-text-gt-MOST_BYTES
returns-then-text-gt-MOST_BYTES c = long_is_none c.args.text.now (search rules)

pub returns : goal.returns
returns c = short_is c.args.text.now c.is_ascii.result (search rules) c.is_ascii.ensures.cases

use Rattle.std.proofs.Common.{None, lit<}
use Rattle.std.proofs.lemmas.Str.Pattern.{strip_prefix_char}
use Rattle.workspace.proofs.LabelLemmas.{relative_name-bare}
use Rattle.rule_calls.proofs.here.without_colon.Goals as goal

pub returns-in-None : goal.returns-in-None
returns-in-None c = relative_name-bare c.args.text.now (strip_prefix_char 58 c.args.text.now None c.in-None.ensures.cases (lit< tt))

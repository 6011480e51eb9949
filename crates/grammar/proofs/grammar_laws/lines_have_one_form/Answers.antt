use Rattle.std.proofs.Common.{sym, ◌∙◌}
use Rattle.grammar.proofs.LinesRead.{one_form}
use Rattle.grammar.proofs.grammar_laws.lines_have_one_form.Goals as goal

pub returns : goal.returns
returns c ts f g h k = one_form f g h.is_form k.is_form (sym h.whole ∙ k.whole)

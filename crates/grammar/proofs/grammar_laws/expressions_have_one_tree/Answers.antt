use Rattle.std.proofs.Common.{sym, ◌∙◌}
use Rattle.grammar.proofs.Complete.{one_tree}
use Rattle.grammar.proofs.grammar_laws.expressions_have_one_tree.Goals as goal

pub returns : goal.returns
returns c ts t u h k = one_tree t u h.is_tree k.is_tree (sym h.whole ∙ k.whole)

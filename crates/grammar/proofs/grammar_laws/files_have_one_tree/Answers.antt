use Rattle.std.proofs.Common.{sym, ◌∙◌, [], true, false}
use Rattle.grammar.proofs.OneTree.{one_block}
use Rattle.grammar.proofs.grammar_laws.files_have_one_tree.Goals as goal

pub returns : goal.returns
returns c p lines t u h k = (one_block p p false false true true 0 t u [] [] h.is_block k.is_block tt tt (sym h.whole ∙ k.whole)).0

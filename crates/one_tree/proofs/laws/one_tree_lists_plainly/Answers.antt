use Rattle.one_tree.proofs.News.{depsets_are_coherent, texts_are_plain}
use Rattle.one_tree.proofs.laws.one_tree_lists_plainly.Goals as goal

pub returns : goal.returns
returns c = record { depsets = depsets_are_coherent; texts = texts_are_plain }

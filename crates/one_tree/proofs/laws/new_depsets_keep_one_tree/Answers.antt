use Rattle.one_tree.proofs.News.{begins_fresh, new_depset_keeps}
use Rattle.one_tree.proofs.laws.new_depsets_keep_one_tree.Goals as goal

pub returns : goal.returns
returns c = record { begins = begins_fresh; new = new_depset_keeps }

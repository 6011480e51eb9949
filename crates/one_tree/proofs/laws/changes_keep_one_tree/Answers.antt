use Rattle.one_tree.proofs.Changed.{changes_bring_none}
use Rattle.one_tree.proofs.Freezes.{freezing_brings_none}
use Rattle.one_tree.proofs.News.{parts_keep}
use Rattle.one_tree.proofs.laws.changes_keep_one_tree.Goals as goal

pub returns : goal.returns
returns c = record { parts = parts_keep; changes = changes_bring_none; frozen = freezing_brings_none }

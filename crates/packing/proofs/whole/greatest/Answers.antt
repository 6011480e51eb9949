use Rattle.packing.proofs.SizesLemmas.{greatest-sizes}
use Rattle.packing.proofs.whole.greatest.Goals as goal

pub returns : goal.returns
returns g c =
    greatest-sizes (g.F.Folder.at c.args.folder.now) c.in_ok-sizes.sizes.items c.sort_unstable.new.self.items c.reverse.new.self.items c.truncate.new.self.items
    c.in_ok-sizes.ensures c.sort_unstable.ensures.permutation c.sort_unstable.ensures.sorted c.reverse.ensures.items c.reverse.ensures.permutation
    c.truncate.ensures.items

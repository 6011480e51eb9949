use Rattle.std.proofs.Common.{ap, arith, reverse}
use Rattle.program_tree.specs.Names.{width}
use Rattle.scopes.proofs.LevelLemmas.{width_cut}
use Rattle.scopes.proofs.levels.Levels.width.Goals as goal

pub returns : goal.returns
returns c =
    let cut = width_cut (reverse c.self.inside.starts.items) c.self.inside.bound.items c.self.invariant.0 in
    omega (arith, c.len.ensures, cut, ap width c.self.view_is)

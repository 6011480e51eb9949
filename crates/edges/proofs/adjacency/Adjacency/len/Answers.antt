use Rattle.std.proofs.Common.{arith, length, ap}
use Rattle.edges.proofs.Flat.{flat_len}
use Rattle.edges.proofs.adjacency.Adjacency.len.Goals as goal

pub returns : goal.returns
returns c = omega (arith, c.len.ensures, c.self.inside.starts.ok.0, flat_len c.self.inside.starts.items c.self.inside.entries.items, ap length c.self.view_is)

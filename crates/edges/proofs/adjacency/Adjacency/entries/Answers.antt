use Rattle.std.proofs.Common.{sym, ap, ◌∙◌, length}
use Rattle.std.specs.List.{sum_by}
use Rattle.edges.proofs.Flat.{flat_entries}
use Rattle.edges.proofs.adjacency.Adjacency.entries.Goals as goal

pub returns : goal.returns
returns c = c.len.ensures ∙ c.self.inside.entries.ok.0 ∙ sym (flat_entries c.self.inside.starts.items c.self.inside.entries.items c.self.invariant) ∙ ap (sum_by length) c.self.view_is

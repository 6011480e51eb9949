use Rattle.std.proofs.Common.{◌∙◌, sym}
use Rattle.depsets.proofs.Turns.{drop_at}
use Rattle.values.specs.Seeing.{table_entries, entry_value}
use Rattle.values.proofs.iter.TableIterIterator.next.Goals as goal

pub returns-clause-steps : goal.returns-clause-steps
returns-clause-steps c =
    sym c.self.view_is ∙ drop_at (table_entries c.self.inside.table) c.self.inside.next (entry_value c.in_ok-entry.entry) c.in_ok-entry.ensures

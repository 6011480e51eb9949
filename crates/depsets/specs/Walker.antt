-- What a walker has seen. (This project's own.)
use Rattle.depsets.specs.Skip.{Walk}
use Rattle.depsets.specs.declared.depset.Id.{Id}
use Rattle.depsets.specs.declared.element.Element.{Element}
use Rattle.depsets.specs.declared.listing.Walker.{Walker}

-- how far a walker is, as the walk of the listing's contracts
abbrev pub walk_of : Walker → Walk Id Element
walk_of w = record { seen = w.seen; items = w.items; steps = w.cursor.steps }

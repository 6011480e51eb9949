use Rattle.std.proofs.Common.{◌∙◌, ap}
use Rattle.std.specs.Prelude.{is_some}
use Rattle.first_places.proofs.Placing.{found_is_among}
use Rattle.first_places.proofs.names.PlacedNames.has.Goals as goal

pub returns : goal.returns
returns c = c.is_some.ensures ∙ ap is_some c.place.ensures ∙ found_is_among c.args.name.now c.args.self.now

use Rattle.file_syntax.proofs.OwnPlaces.{first_slots}
use Rattle.file_syntax.proofs.laws.parameters_have_the_first_slots.Goals as goal

pub returns : goal.returns
returns c = first_slots

use Rattle.file_syntax.proofs.OwnPlaces.{one_name, one_slot}
use Rattle.file_syntax.proofs.laws.names_have_places_of_their_own.Goals as goal

pub returns-clause-slots : goal.returns-clause-slots
returns-clause-slots c s x y k = one_slot x y s.levels k

pub returns-clause-globals : goal.returns-clause-globals
returns-clause-globals c s x y k = one_name x y s.globals k

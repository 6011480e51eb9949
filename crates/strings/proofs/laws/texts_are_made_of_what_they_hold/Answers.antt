use Rattle.strings.proofs.Meanings.{begins_says, ends_says, part_says}
use Rattle.strings.proofs.laws.texts_are_made_of_what_they_hold.Goals as goal

pub returns : goal.returns
returns c = record { begins = begins_says; ends = ends_says; holds = part_says }

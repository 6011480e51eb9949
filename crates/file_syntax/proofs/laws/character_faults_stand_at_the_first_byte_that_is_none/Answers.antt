use Rattle.file_syntax.proofs.CharacterFaults.{character_fault_is, character_fault_as}
use Rattle.file_syntax.proofs.laws.character_faults_stand_at_the_first_byte_that_is_none.Goals as goal

pub returns : goal.returns
returns c text line = (character_fault_is text line, character_fault_as text line)

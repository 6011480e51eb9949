use Rattle.grammar.proofs.FilesRead.{file_sound, file_complete}
use Rattle.grammar.proofs.block_laws.files_are_read.Goals as goal

pub returns-clause-sound : goal.returns-clause-sound
returns-clause-sound c = file_sound

pub returns-clause-complete : goal.returns-clause-complete
returns-clause-complete c = file_complete

use Rattle.lexer.proofs.ReadingLaws.{reading_is, reading_as, refused}
use Rattle.lexer.proofs.laws.reads_what_is_laid_out.Goals as goal

pub returns-clause-sound : goal.returns-clause-sound
returns-clause-sound c = reading_is

pub returns-clause-complete : goal.returns-clause-complete
returns-clause-complete c = reading_as

pub returns-clause-refused : goal.returns-clause-refused
returns-clause-refused c = refused

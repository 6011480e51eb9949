use Rattle.grammar.proofs.Complete.{is_read_whole}
use Rattle.grammar.proofs.Sound.{last_sound}
use Rattle.grammar.proofs.grammar_laws.expressions_are_read.Goals as goal

pub returns-clause-sound : goal.returns-clause-sound
returns-clause-sound c ts t e = last_sound ts t e

pub returns-clause-complete : goal.returns-clause-complete
returns-clause-complete c ts t h = is_read_whole ts t h

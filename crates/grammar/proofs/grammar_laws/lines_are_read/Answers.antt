use Rattle.grammar.proofs.LinesRead.{is_read_form}
use Rattle.grammar.proofs.LinesSound.{form_is}
use Rattle.grammar.proofs.grammar_laws.lines_are_read.Goals as goal

pub returns-clause-sound : goal.returns-clause-sound
returns-clause-sound c ts f e = form_is ts f e

pub returns-clause-complete : goal.returns-clause-complete
returns-clause-complete c ts f h = is_read_form ts f h

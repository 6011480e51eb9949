use Rattle.file_syntax.proofs.FileDepths.{file_shallow}
use Rattle.file_syntax.proofs.FileRanges.{file_is}
use Rattle.file_syntax.proofs.laws.files_are_programs.Goals as goal

pub returns-clause-shallow : goal.returns-clause-shallow
returns-clause-shallow c = file_shallow

pub returns-clause-fits : goal.returns-clause-fits
returns-clause-fits c = file_is

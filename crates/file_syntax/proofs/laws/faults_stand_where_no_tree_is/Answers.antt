use Rattle.file_syntax.proofs.FileLaws.{refused_has_none, none_is_refused}
use Rattle.file_syntax.proofs.laws.faults_stand_where_no_tree_is.Goals as goal

pub returns-clause-refused : goal.returns-clause-refused
returns-clause-refused c = refused_has_none

pub returns-clause-found : goal.returns-clause-found
returns-clause-found c = none_is_refused

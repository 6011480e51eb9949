use Rattle.file_syntax.proofs.TokenFaults.{token_fault_is, token_fault_as}
use Rattle.file_syntax.proofs.laws.token_faults_stand_where_nothing_fits.Goals as goal

pub returns : goal.returns
returns c text line = (token_fault_is text line, token_fault_as text line)

use Rattle.file_syntax.proofs.LineFaults.{line_fault_is, line_fault_as}
use Rattle.file_syntax.proofs.laws.faults_of_lines_are_the_first.Goals as goal

pub returns : goal.returns
returns c text f = (line_fault_is text f, line_fault_as text f)

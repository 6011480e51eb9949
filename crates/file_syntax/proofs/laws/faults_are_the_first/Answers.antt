use Rattle.file_syntax.proofs.FaultLaws.{fault_is, fault_as}
use Rattle.file_syntax.proofs.laws.faults_are_the_first.Goals as goal

pub returns : goal.returns
returns c text kind f = (fault_is text kind f, fault_as text kind f)

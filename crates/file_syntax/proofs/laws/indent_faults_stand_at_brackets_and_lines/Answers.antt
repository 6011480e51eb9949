use Rattle.file_syntax.proofs.IndentFaults.{indent_fault_is}
use Rattle.file_syntax.proofs.LineFaults.{numbered}
use Rattle.file_syntax.proofs.LineWalk.{indent_fault_as}
use Rattle.file_syntax.proofs.laws.indent_faults_stand_at_brackets_and_lines.Goals as goal

pub returns : goal.returns
returns c text tokens line h =
    (indent_fault_is tokens line (numbered text tokens h), indent_fault_as tokens line (numbered text tokens h))

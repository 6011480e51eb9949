use Rattle.std.proofs.Common.{map}
use Rattle.grammar.specs.Blocks.{laid}
use Rattle.grammar.proofs.ColonLaws.{last_shut}
use Rattle.grammar.proofs.StatementFaults.{first_fault, fault_refused}
use Rattle.grammar.proofs.block_laws.faults_are_the_first.Goals as goal

pub returns : goal.returns
returns c text lines r p n =
    let shut = last_shut lines _ _ r.laid_out.nested in
    (first_fault p (map laid lines) n shut, fault_refused p (map laid lines) n shut)

use Rattle.meaning.proofs.LinkedLemmas.{linked_terminates}
use Rattle.meaning.proofs.laws.compiled_code_ends.Goals as goal

pub returns : goal.returns
returns g c = linked_terminates

use Rattle.meaning.proofs.Calls.{line_found}
use Rattle.meaning.proofs.Lines.{function_lined}
use Rattle.meaning.proofs.laws.functions_have_lines.Goals as goal

pub returns-clause-kept : goal.returns-clause-kept
returns-clause-kept c = line_found

pub returns-clause-each : goal.returns-clause-each
returns-clause-each c = function_lined

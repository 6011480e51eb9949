use Rattle.meaning.proofs.Ends.{call_ends, function_ends, top_ends}
use Rattle.meaning.proofs.laws.compiled_code_is_correct.Goals as goal

pub returns-clause-calls : goal.returns-clause-calls
returns-clause-calls g c = call_ends

pub returns-clause-functions : goal.returns-clause-functions
returns-clause-functions g c = function_ends

pub returns-clause-top_levels : goal.returns-clause-top_levels
returns-clause-top_levels g c = top_ends

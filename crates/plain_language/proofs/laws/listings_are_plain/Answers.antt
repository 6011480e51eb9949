use Rattle.plain_language.proofs.Agreeing.{operations_are_plain, calls_are_plain, top_levels_are_plain}
use Rattle.plain_language.proofs.laws.listings_are_plain.Goals as goal

pub returns-clause-operations : goal.returns-clause-operations
returns-clause-operations g c = operations_are_plain

pub returns-clause-calls : goal.returns-clause-calls
returns-clause-calls g c = calls_are_plain

pub returns-clause-top_levels : goal.returns-clause-top_levels
returns-clause-top_levels g c = top_levels_are_plain

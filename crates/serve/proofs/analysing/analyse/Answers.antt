use Rattle.std.proofs.Common.{ap, Err}
use Rattle.serve.proofs.analysing.analyse.Goals as goal

pub returns-in-Err-TooMany-clause-many : goal.returns-in-Err-TooMany-clause-many
returns-in-Err-TooMany-clause-many g c e = c.in-Err-TooMany.ensures.many (ap (λ s. Err s) c.in-Err-TooMany.field-0-is)

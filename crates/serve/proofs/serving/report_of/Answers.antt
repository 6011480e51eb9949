use Rattle.std.proofs.Common.{ap, Err}
use Rattle.serve.proofs.serving.report_of.Goals as goal

pub returns-in-Err-Illegal-clause-input_only : goal.returns-in-Err-Illegal-clause-input_only
returns-in-Err-Illegal-clause-input_only g c e = c.in-Err-Illegal.ensures.illegal (ap (λ s. Err s) c.in-Err-Illegal.field-0-is)

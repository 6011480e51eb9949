use Rattle.statements.proofs.OutlinesRead.{outlines_is, outlines_as}
use Rattle.statements.proofs.outline_laws.outlines_tell_the_fault.Goals as goal

pub returns : goal.returns
returns c p ls n = (outlines_is p ls n, outlines_as p ls n)

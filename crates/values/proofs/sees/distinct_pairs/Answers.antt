use Rattle.std.proofs.Common.{arith}
use Rattle.values.proofs.KeyListLemmas.{distinct-derived, distinct-zip}
use Rattle.values.proofs.SeeLemmas.{length-zip}
use Rattle.values.proofs.sees.distinct_pairs.Goals as goal

pub returns-clause-len : goal.returns-clause-len
returns-clause-len c = omega (arith, length-zip c.args.keys.now.keys c.args.values.now, c.min.ensures, c.len.ensures.len)

pub returns-clause-distinct : goal.returns-clause-distinct
returns-clause-distinct c = distinct-zip c.args.keys.now.keys c.args.values.now (distinct-derived c.args.keys.now.keys c.len.ensures.unique)

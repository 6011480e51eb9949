use Rattle.std.proofs.Common.{◌≡◌, ◌++◌, [], drop}
use Rattle.claims.specs.Commons.{gathered}
use Rattle.claims.proofs.commons.gather.Given as goal

abbrev pub invariant-loop-claim : goal.invariant-loop-claim
invariant-loop-claim l = l.gatherer.found.items ++ gathered l.gatherer.path l.gatherer.members (drop l.claim-index l.claims) ≡ gathered [] [] l.claims

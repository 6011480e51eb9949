use Rattle.std.proofs.Common.{subst}
use Rattle.meaning.specs.Linked.{IsFileCode}
use Rattle.code.proofs.code.Code.functions.Goals as goal

pub returns-clause-compiled : goal.returns-clause-compiled
returns-clause-compiled c = subst IsFileCode c.self.view_is c.self.invariant

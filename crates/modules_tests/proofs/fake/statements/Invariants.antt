use Rattle.std.proofs.Common.{◌≡◌, take}
use Rattle.modules_tests.proofs.fake.statements.Given as goal

abbrev pub invariant-loop-load : goal.invariant-loop-load
invariant-loop-load l = l.copied.items ≡ take l.load-index l.loads

use Rattle.std.proofs.Common.{◌≡◌, take}
use Rattle.modules_tests.proofs.fake.texts.Given as goal

abbrev pub invariant-loop-text : goal.invariant-loop-text
invariant-loop-text l = l.copied.items ≡ take l.text-index l.texts

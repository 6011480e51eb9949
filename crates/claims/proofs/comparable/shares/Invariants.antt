use Rattle.std.proofs.Common.{◌≡◌, take}
use Rattle.claims.proofs.comparable.shares.Given as goal

abbrev pub invariant-loop-text : goal.invariant-loop-text
invariant-loop-text l = l.shares.items ≡ take l.text-index l.texts

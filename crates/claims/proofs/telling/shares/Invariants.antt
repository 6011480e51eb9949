use Rattle.std.proofs.Common.{◌≡◌, take}
use Rattle.claims.proofs.telling.shares.Given as goal

abbrev pub invariant-loop-text : goal.invariant-loop-text
invariant-loop-text l = l.shares ≡ take l.text-index l.texts

use Rattle.std.proofs.Common.{◌≡◌, ◌≤◌, ◌+◌, length}
use denote.Text.{Utf8}
use denote.Shadow.{shadow}
use Rattle.strings.specs.Splitting.{parts}
use Rattle.strings.proofs.splitting.count.Given as goal

abbrev pub invariant-loop-behind : goal.invariant-loop-behind
invariant-loop-behind l =
    shadow (Utf8 l.rest) × (l.parts ≤ 1048576) × (l.parts + length (parts l.separator l.rest) ≡ length (parts l.separator l.text) + 1)

abbrev pub decreases-loop-behind : goal.decreases-loop-behind
decreases-loop-behind l = length l.rest

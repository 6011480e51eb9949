use Rattle.std.proofs.Common.{◌≡◌, ◌+◌, ◌≤◌, length, map, drop}
use Rattle.strings.specs.Joining.{glued}
use Rattle.strings.proofs.Glued.{trailed}
use Rattle.strings.proofs.joining.joined_length.Given as goal

abbrev pub invariant-loop-part : goal.invariant-loop-part
invariant-loop-part l =
    (l.length ≤ 1048576)
    × (l.length + length (trailed l.separator (map (λ p. p.now) (drop l.part-index l.others))) ≡ length (glued l.separator (map (λ p. p.now) l.parts)))

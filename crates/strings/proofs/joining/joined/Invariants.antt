use Rattle.std.proofs.Common.{◌≡◌, ◌++◌, map, drop, string_bytes}
use Rattle.strings.specs.Joining.{glued}
use Rattle.strings.proofs.Glued.{trailed}
use Rattle.strings.proofs.joining.joined.Given as goal

abbrev pub invariant-loop-part : goal.invariant-loop-part
invariant-loop-part l =
    string_bytes l.text ++ trailed l.separator (map (λ p. p.now) (drop l.part-index l.others)) ≡ glued l.separator (map (λ p. p.now) l.parts)

use Rattle.std.proofs.Common.{◌≡◌, ◌≤◌, length, drop}
use Rattle.std.specs.Prelude.{bytes_eq}
use Rattle.lexer.specs.Strings.{unescaped, unescaped_from}
use Rattle.lexer.proofs.strings.stands_for.Given as goal

-- what is left of the body and of the bytes decides
abbrev pub invariant-loop-b : goal.invariant-loop-b
invariant-loop-b l =
    (bytes_eq (unescaped_from l.escaped (drop l.b-index l.body)) (drop l.place l.bytes) ≡ bytes_eq (unescaped l.body) l.bytes) × (l.place ≤ length l.bytes)

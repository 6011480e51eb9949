use Rattle.std.proofs.Common.{◌≡◌, false, drop}
use Rattle.lexer.specs.Strings.{body_length}
use Rattle.std.proofs.Common.{◌+◌}
use Rattle.std.specs.Option.{option_map}
use Rattle.lexer.proofs.strings.body_length.Given as goal

-- from here on the body goes as far as it did from its first byte on
abbrev pub invariant-loop-place : goal.invariant-loop-place
invariant-loop-place l = option_map (λ n. l.place + n) (body_length l.quote l.escaped (drop l.place l.rest)) ≡ body_length l.quote false l.rest

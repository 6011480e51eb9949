use Rattle.std.proofs.Common.{◌≡◌, ◌++◌, drop, string_bytes}
use Rattle.lexer.specs.Strings.{unescaped, unescaped_from}
use Rattle.lexer.proofs.strings.unescape.Given as goal

-- what was read, with what is left, is what the body stands for
abbrev pub invariant-loop-b : goal.invariant-loop-b
invariant-loop-b l = string_bytes l.text ++ unescaped_from l.escaped (drop l.b-index l.body) ≡ unescaped l.body

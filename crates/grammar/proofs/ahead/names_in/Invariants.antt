use Rattle.std.proofs.Common.{◌≡◌, ◌++◌, length}
use Rattle.std.specs.Option.{option_map}
use Rattle.grammar.specs.Front.{names_in}
use Rattle.grammar.specs.Ahead.{tokens_seen}
use Rattle.grammar.proofs.ahead.names_in.Given as goal

-- the names found, before those that are left
abbrev pub invariant-loop-left : goal.invariant-loop-left
invariant-loop-left l =
    option_map (λ r. (l.names.items ++ r.0, r.1)) (names_in (tokens_seen l.lines.text l.left)) ≡ names_in (tokens_seen l.lines.text l.tokens)

abbrev pub decreases-loop-left : goal.decreases-loop-left
decreases-loop-left l = length l.left

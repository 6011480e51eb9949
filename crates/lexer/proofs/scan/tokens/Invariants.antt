use Rattle.std.proofs.Common.{◌≡◌, ◌-◌, length}
use Rattle.lexer.specs.Scan.{tokens_of}
use Rattle.lexer.specs.Cursor.{IsCursor, left}
use Rattle.lexer.proofs.scan.tokens.Given as goal

-- the tokens found, with those that are left, are the text's
abbrev pub invariant-loop-cursor : goal.invariant-loop-cursor
invariant-loop-cursor l = IsCursor l.text l.cursor × (left l.text l.cursor l.tokens.items ≡ tokens_of l.text)

abbrev pub decreases-loop-cursor : goal.decreases-loop-cursor
decreases-loop-cursor l = length l.text - l.cursor.at

use Rattle.std.proofs.Common.{◌≡◌, List, ℕ, map, drop}
use Rattle.lexer.specs.Scan.{preceded}
use Rattle.lexer.specs.Seen.{seen}
use Rattle.lexer.specs.Layout.{line_starts, at_start}
use Rattle.lexer.proofs.layout.line_starts.Given as goal

-- the places found, with those that are left, are those of all tokens
abbrev pub invariant-loop-place : goal.invariant-loop-place
invariant-loop-place l =
    (text : List ℕ) → preceded l.starts.items (line_starts l.place l.layout (map (seen text) (drop l.place l.tokens)))
    ≡ line_starts 0 at_start (map (seen text) l.tokens)

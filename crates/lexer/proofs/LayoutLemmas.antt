-- Laws of the layout, one token at a time.
use Rattle.std.proofs.Common.{ℕ, ◌≡◌, ◌+◌, List, [], ◌∷◌, refl, Ok, Err, if◌then◌else◌}
use Rattle.lexer.specs.declared.layout.Layout.{Layout}
use Rattle.lexer.specs.Tokens.{Placed}
use Rattle.lexer.specs.Scan.{preceded}
use Rattle.lexer.specs.Layout.{turn, mark_of, starts, ended, line_starts}

pub behind_token : (place : ℕ) (s after : Layout) (t : Placed) (rest : List Placed)
    → turn s (mark_of t.token) t.line t.column ≡ Ok after
    → line_starts place s (t ∷ rest) ≡ preceded (if starts s t.line then place ∷ [] else []) (line_starts (place + 1) after rest)
unfolding line_starts
behind_token place s after t rest e = rw (e, line_starts) refl

pub fault_at_token : (place line : ℕ) (s : Layout) (t : Placed) (rest : List Placed)
    → turn s (mark_of t.token) t.line t.column ≡ Err line
    → line_starts place s (t ∷ rest) ≡ Err line
unfolding line_starts
fault_at_token place line s t rest e = rw (e, line_starts) refl

pub at_end : (place : ℕ) (s : Layout) → line_starts place s [] ≡ ended s
unfolding line_starts
at_end place s = refl

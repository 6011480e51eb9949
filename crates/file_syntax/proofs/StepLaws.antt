-- What a token makes of a state of the pass over brackets and columns.
use Rattle.std.proofs.Common.{ℕ, ◌≡◌, ◌+◌, ◌⊎◌, inl, inr, true, false, List, [], ◌∷◌, refl, ap, ◌∙◌, Option, Result, Ok, Err, if◌then◌else◌}
use Rattle.lexer.specs.declared.token.Mark.{Mark}
use Rattle.lexer.specs.Tokens.{Placed}
use Rattle.lexer.specs.Scan.{preceded}
use Rattle.lexer.specs.Layout.{◌>>=◌, starts, columns_at, after_token, is_colon, mark_of, turn, line_starts}
use Rattle.lexer.proofs.LayoutLemmas.{behind_token, fault_at_token}
use Rattle.file_syntax.proofs.Steps.{Layout, Open}

-- a state behind a token
abbrev pub behind : Option Mark → ℕ → List ℕ → ℕ → List Open → Layout
behind m line columns first unclosed = record {
  unclosed = unclosed;
  columns = columns;
  head = is_colon m;
  first = first;
  last = line;
}

-- what a token in the middle of a logical line gives
abbrev pub middle : Layout → Option Mark → ℕ → Result Layout ℕ
middle s m line = after_token s.unclosed m line >>= λ unclosed. Ok (behind m line s.columns s.first unclosed)

-- what a token that begins a logical line gives
abbrev pub newly : Layout → Option Mark → ℕ → List ℕ → Result Layout ℕ
newly s m line columns = after_token s.unclosed m line >>= λ unclosed. Ok (behind m line columns line unclosed)

-- a token in the middle of a logical line is taken
pub turn_middle : (s : Layout) (m : Option Mark) (line column : ℕ) → starts s line ≡ false → turn s m line column ≡ middle s m line
unfolding turn
turn_middle s m line column n = rw n refl

-- a token that begins a logical line finds its block and is taken
pub turn_first : (s : Layout) (m : Option Mark) (line column : ℕ) → starts s line ≡ true
    → turn s m line column ≡ (columns_at s line column >>= newly s m line)
unfolding turn
turn_first s m line column n = rw n (by_columns (columns_at s line column))
  where
    by_columns : (r : Result (List ℕ) ℕ)
        → ((r >>= λ columns. Ok (record s { columns = columns; first = line })) >>= λ u. after_token u.unclosed m line >>= λ unclosed.
        Ok (record { unclosed = unclosed; columns = u.columns; head = is_colon m; first = u.first; last = line }))
        ≡ (r >>= newly s m line)
    by_columns (Ok columns) = refl
    by_columns (Err n) = refl

-- where a step is refused it is refused itself, or what follows it is
pub refused_step : {A B : Type 0} (r : Result A ℕ) (f : A → Result B ℕ) (n : ℕ) → (r >>= f) ≡ Err n
    → (r ≡ Err n) ⊎ ((x : A) × (r ≡ Ok x) × (f x ≡ Err n))
refused_step (Ok x) f n e = inr (x, refl, e)
refused_step (Err m) f n e = inl (let same : m ≡ n = cc in ap Err same)

-- tokens are refused behind a state
abbrev pub Refuses : Layout → List Placed → ℕ → Type 0
Refuses s ts n = (place : ℕ) → line_starts place s ts ≡ Err n

-- a token is passed
pub pass_token : (s after : Layout) (t : Placed) (ts : List Placed) (n : ℕ) → turn s (mark_of t.token) t.line t.column ≡ Ok after
    → Refuses after ts n → Refuses s (t ∷ ts) n
pass_token s after t ts n e h place =
    behind_token place s after t ts e
    ∙ ap (λ r. preceded (if starts s t.line then place ∷ [] else []) r) (h (place + 1))

-- a token is refused
pub stop_token : (s : Layout) (t : Placed) (ts : List Placed) (n : ℕ) → turn s (mark_of t.token) t.line t.column ≡ Err n
    → Refuses s (t ∷ ts) n
stop_token s t ts n e place = fault_at_token place n s t ts e

-- where tokens are refused the first of them is, or those behind it are
pub refused_token : (place : ℕ) (s : Layout) (t : Placed) (ts : List Placed) (n : ℕ) → line_starts place s (t ∷ ts) ≡ Err n
    → (turn s (mark_of t.token) t.line t.column ≡ Err n)
    ⊎ ((after : Layout) × (turn s (mark_of t.token) t.line t.column ≡ Ok after) × (line_starts (place + 1) after ts ≡ Err n))
unfolding line_starts
refused_token place s t ts n e = elim (refused_step (turn s (mark_of t.token) t.line t.column) (λ after. preceded (if starts s t.line then place ∷ [] else []) (line_starts (place + 1) after ts)) n e) [
  | inl r ↦ inl r
  | inr r ↦ inr (r.0, r.1, passed_on (if starts s t.line then place ∷ [] else []) (line_starts (place + 1) r.0 ts) n r.2)
]
  where
    passed_on : (places : List ℕ) (r : Result (List ℕ) ℕ) (n : ℕ) → preceded places r ≡ Err n → r ≡ Err n
    passed_on places (Ok us) n e = absurd cc
    passed_on places (Err m) n e = e

-- The tokens of a file, from its first byte to its last. (Starlark specification, "Lexical
-- elements"; where a token fault stands is this project's own; docs/PROFILE.md, "Passes".)
use Rattle.std.specs.Prelude.{ℕ, zero, suc, ◌+◌, List, [], ◌∷◌, ◌++◌, Result, Ok, Err}
use Rattle.lexer.specs.Tokens.{Placed}
use Rattle.lexer.specs.Begins.{space, line_end, comment, token, nothing, begins}

-- items before those that a reading gives
abbrev pub preceded : {A : Type 0} → List A → Result (List A) ℕ → Result (List A) ℕ
preceded ts (Ok us) = Ok (ts ++ us)
preceded ts (Err line) = Err line

-- the tokens of what is left of a text, at a line and a column, or the line of the first place
-- where no token fits. The first number counts the bytes at the front that belong to the token or
-- comment before.
unfoldable pub scan : ℕ → ℕ → ℕ → List ℕ → Result (List Placed) ℕ
scan inside line column [] = Ok []
scan (suc n) line column (b ∷ bs) = scan n line (column + 1) bs
scan zero line column (b ∷ bs) = elim (begins b bs) [
  | space ↦ scan 0 line (column + 1) bs
  | line_end ↦ scan 0 (line + 1) 0 bs
  | comment n ↦ scan n line (column + 1) bs
  | token t n ↦
      preceded (record { token = t; line = line; column = column } ∷ [])
      (scan n line (column + 1) bs)
  | nothing ↦ Err line
]

-- the tokens of a text, or the line of its first token fault
unfoldable pub tokens_of : List ℕ → Result (List Placed) ℕ
tokens_of text = scan 0 1 0 text

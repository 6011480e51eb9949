-- A text as the parts that it consists of, one after the other, and its tokens: said of the bytes
-- and of their places. (Starlark specification, "Lexical elements"; docs/PROFILE.md, "Tokens".)
use Rattle.std.specs.Prelude.{◌≡◌, ℕ, ◌+◌, List, [], ◌∷◌, drop}
use Rattle.lexer.specs.Characters.{newline}
use Rattle.lexer.specs.Tokens.{Token, Placed}
use Rattle.lexer.specs.Fits.{IsLongest, IsComment}

-- a part of a text: a space, the end of a line, a comment of so many bytes, or so many bytes that
-- are a token
pub data Part : Type 0 where
  blank : Part
  line_break : Part
  remark : ℕ → Part
  spelled : Token → ℕ → Part

-- a text, or what is left of one at a line and a column, consists of these parts, and these are the
-- tokens among them. A token is as long as one can be at its place. Columns count bytes from the
-- beginning of a line
abbrev pub Consists : List Part → ℕ → ℕ → List ℕ → List Placed → Type 0
Consists [] line column text ts = (text ≡ []) × (ts ≡ [])
Consists (blank ∷ parts) line column text ts =
    (further : List ℕ) × (text ≡ 32 ∷ further) × Consists parts line (column + 1) further ts
Consists (line_break ∷ parts) line column text ts =
    (further : List ℕ) × (text ≡ newline ∷ further) × Consists parts (line + 1) 0 further ts
Consists (remark n ∷ parts) line column text ts =
    IsComment text n × Consists parts line (column + n) (drop n text) ts
Consists (spelled t n ∷ parts) line column text ts =
    IsLongest text n t
    × ((others : List Placed) × (ts ≡ record { token = t; line = line; column = column } ∷ others)
    × Consists parts line (column + n) (drop n text) others)

-- a text has these tokens: lines count from 1, columns from 0
abbrev pub IsTokens : List ℕ → List Placed → Type 0
IsTokens text ts = (parts : List Part) × Consists parts 1 0 text ts

-- The tokens of a file, as what they mean: a name or a string is its bytes, wherever they stand.
use Rattle.std.specs.Prelude.{ℕ, List, map}
use Rattle.lexer.specs.declared.token.Word.{Word}
use Rattle.lexer.specs.declared.token.Mark.{Mark}

-- a token (Starlark specification, "Lexical elements"); a string's bytes are those after its
-- escapes were read
pub data Token : Type 0 where
  name : List ℕ → Token
  number : ℕ → Token
  string : List ℕ → Token
  word : Word → Token
  mark : Mark → Token

-- a token with the line on which it stands and its column there, which is the number of bytes
-- before it
pub record Placed : Type 0 where
  pub token : Token
  pub line : ℕ
  pub column : ℕ

-- the tokens of a line, without their places
abbrev pub line_tokens : List Placed → List Token
line_tokens line = map (λ p. p.token) line

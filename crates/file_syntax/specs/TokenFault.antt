-- Where the first token fault of a text stands, said of the bytes: the text is read in whole parts
-- up to a byte at which no part begins. A part is a space, the end of a line, a comment or a token.
-- (Starlark specification, "Lexical elements"; that such a fault is one of the file, and on which
-- line, is this project's own; docs/PROFILE.md, "Passes" and "Tokens".)
use Rattle.std.specs.Prelude.{◌≡◌, ◌≢◌, ℕ, ◌≤◌, List, [], ◌∷◌, ◌++◌, length, drop}
use Rattle.lexer.specs.Characters.{newline, line_at}
use Rattle.lexer.specs.Tokens.{Token}
use Rattle.lexer.specs.Fits.{Fits, IsLongest, IsComment}
use Rattle.lexer.specs.Parts.{Part, blank, line_break, remark, spelled}

-- bytes that stand before others in a text are these parts, one after the other, each of them
-- whole. What stands behind the bytes counts for the last part: a token is as long as one can be at
-- its place in the text, so `=` is none before `=`; a comment goes on up to the end of its line
abbrev pub AreParts : List Part → List ℕ → List ℕ → Type 0
AreParts [] bytes behind = bytes ≡ []
AreParts (blank ∷ parts) bytes behind =
    (others : List ℕ) × (bytes ≡ 32 ∷ others) × AreParts parts others behind
AreParts (line_break ∷ parts) bytes behind =
    (others : List ℕ) × (bytes ≡ newline ∷ others) × AreParts parts others behind
AreParts (remark n ∷ parts) bytes behind =
    (n ≤ length bytes) × IsComment (bytes ++ behind) n × AreParts parts (drop n bytes) behind
AreParts (spelled t n ∷ parts) bytes behind =
    (n ≤ length bytes) × IsLongest (bytes ++ behind) n t × AreParts parts (drop n bytes) behind

-- no part begins where these bytes begin: there are some, the first is no space, no end of a line
-- and no `#`, and however many of them are taken, they are no token
abbrev pub NoPartBegins : List ℕ → Type 0
NoPartBegins [] = ⊥
NoPartBegins (b ∷ bs) =
    (b ≢ 32) × (b ≢ newline) × (b ≢ 35) × ((n : ℕ) (t : Token) → ¬ Fits (b ∷ bs) n t)

-- the first token fault of a text stands on this line: the text is read in whole parts up to a
-- place on the line, and no part begins there
pub record IsTokenFault (text : List ℕ) (line : ℕ) : Type 0 where
  pub before : List ℕ
  pub behind : List ℕ
  pub text_is : before ++ behind ≡ text
  pub parts : List Part
  pub are_parts : AreParts parts before behind
  pub no_part : NoPartBegins behind
  pub line_is : line ≡ line_at text (length before)

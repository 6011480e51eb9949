-- Where the first character fault of a text stands: at the first byte that is no character of a
-- file. (Starlark specification, "Lexical elements"; which bytes are characters, and on which line
-- the fault is, is this project's own; docs/PROFILE.md, "Passes".)
use Rattle.std.specs.Prelude.{◌≡◌, ℕ, List, ◌∷◌, ◌++◌, length, false}
use Rattle.std.specs.List.{AllPass}
use Rattle.lexer.specs.Characters.{is_character, line_at}

-- the first character fault of a text stands on this line: on it is a byte that is no character,
-- and all bytes before it are characters
pub record IsCharacterFault (text : List ℕ) (line : ℕ) : Type 0 where
  pub before : List ℕ
  pub byte : ℕ
  pub behind : List ℕ
  pub text_is : before ++ byte ∷ behind ≡ text
  pub characters : AllPass is_character before
  pub no_character : is_character byte ≡ false
  pub line_is : line ≡ line_at text (length before)

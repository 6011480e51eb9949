-- The characters of a file, and its lines.
--
-- A file is ASCII text without tabs and carriage returns: its bytes are 0x20 to 0x7E and the
-- newline. The Starlark specification ("Lexical elements") reads UTF-8; the narrower set is this
-- project's own choice.
use Rattle.std.specs.Prelude.{ℕ, ◌+◌, Bool, not, ◌&&◌, ◌||◌, ◌==◌, nat_le, List, Option, take}
use Rattle.std.specs.Prelude.{count_by, position, option_map}

-- the byte that ends a line
abbrev pub newline : ℕ
newline = 10

-- 0x20 to 0x7E, or a newline
abbrev pub is_character : ℕ → Bool
is_character b = (nat_le 32 b && nat_le b 126) || (b == newline)

-- the number of the line in which a place of the text lies; lines count from 1
abbrev pub line_at : List ℕ → ℕ → ℕ
line_at text place = count_by (λ b. b == newline) (take place text) + 1

-- the line of the first byte that is no character
abbrev pub character_fault : List ℕ → Option ℕ
character_fault text = option_map (line_at text) (position (λ b. not (is_character b)) text)

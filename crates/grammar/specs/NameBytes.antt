-- The bytes of a name, wherever they stand. (This project's own.)
use Rattle.std.specs.Prelude.{ℕ, List}
use Rattle.grammar.specs.declared.name.Spelled as spelled
use Rattle.grammar.specs.declared.name.Spelled.TheVariants as s

-- the bytes of a name: a part of the text of a file, or a text that was made for it
abbrev pub name_bytes : spelled.Spelled → List ℕ
name_bytes (s.Here part) = part.now
name_bytes (s.Made text) = text

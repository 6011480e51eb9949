-- Where the bytes of a text lie. (This project's own.)
use Rattle.std.specs.Prelude.{ℕ, List, string_bytes}
use Rattle.plain.specs.declared.text_bytes.TextBytes.{TextBytes}
use Rattle.plain.specs.declared.text_bytes.TextBytes.TheVariants as kept

-- the bytes of a text, whether they lie in place (a short text) or in memory of their own (a long
-- one): what a contract compares of two texts
abbrev pub bytes_of : TextBytes → List ℕ
bytes_of (kept.Short text) = text.bytes
bytes_of (kept.Long text) = string_bytes text

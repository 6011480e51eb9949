-- Texts that are kept as keys. (This project's own.)
use Rattle.std.specs.Prelude.{ℕ, List, []}
use Rattle.keys.specs.declared.key.Key.{Key}
use Rattle.keys.specs.declared.key.Key.TheVariants as keys

-- the bytes of a key that is a text: what a text that is kept as a key is to a contract
abbrev pub key_text : Key → List ℕ
key_text (keys.Text t) = t
key_text _ = []

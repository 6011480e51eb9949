use Rattle.std.proofs.Common.{ℕ, ◌≡◌, ◌+◌, ◌<◌, List, length, drop, slice_index, refl, ◌∙◌, ap}
use Rattle.std.specs.Prelude.{slice_range}
use Rattle.lexer.specs.Tokens.{Token}
use Rattle.lexer.specs.Words.{word_or_name}
use Rattle.lexer.specs.Begins.{token, name_at, run_length, is_word_byte}
use Rattle.lexer.proofs.SliceLemmas.{part_front, from_place}
use Rattle.lexer.proofs.begins.name_at.Goals as goal

name_is : (text : List ℕ) (at more : ℕ) (t : Token) → at < length text
    → more ≡ run_length is_word_byte (drop (at + 1) text) → t ≡ word_or_name (slice_range text at (at + 1 + more))
    → token t more ≡ name_at (slice_index text at) (drop (at + 1) text)
name_is text at more t h k e = rw (e, part_front text at more 0 h, k) refl

pub returns-clause-value : goal.returns-clause-value
returns-clause-value c =
    name_is c.args.text.now c.args.at c.word_length-more.result _ c.requires
    (c.word_length-more.ensures.value ∙ ap (run_length is_word_byte) (from_place c.args.text.now (c.args.at + 1)))
    c.word_or_name.ensures

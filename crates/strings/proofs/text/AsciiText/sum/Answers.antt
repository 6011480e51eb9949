use Rattle.std.proofs.Common.{rules, ap, ◌∙◌, ◌++◌, string_bytes}
use Rattle.strings.proofs.Ascii.{sum_is_text}
use Rattle.strings.proofs.text.AsciiText.sum.Goals as goal

pub from_string-requires : goal.from_string-requires
from_string-requires c =
    sum_is_text (string_bytes c.push_str-2.new.self) c.as_str-front.result.now c.as_str-back.result.now
    (c.in_ok-push_str-2.ensures.bytes
    ∙ ap (λ x. x ++ c.as_str-back.result.now) (c.in_ok-push_str.ensures.bytes ∙ ap (λ x. x ++ c.as_str-front.result.now) c.in_ok-text.ensures.bytes))
    (search rules) (search rules) (search rules)

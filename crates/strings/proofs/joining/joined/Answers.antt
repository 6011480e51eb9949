use Rattle.std.proofs.Common.{ap, map, ◌∙◌, ◌++◌, string_bytes}
use Rattle.strings.proofs.Glued.{start_bytes}
use Rattle.strings.proofs.joining.joined.Goals as goal

pub loop-part-init : goal.loop-part-init
loop-part-init c =
    let e = c.in_ok-push_str.ensures.bytes ∙ ap (λ x. x ++ c.as_str.result.now) c.in_ok-text.ensures.bytes in
    start_bytes c.args.separator.now c.in-Some.first.now.now (string_bytes c.push_str.new.self) (map (λ p. p.now) c.in-Some.others.now) (map (λ p. p.now) c.args.parts.now)
    (ap (map (λ p. p.now)) c.in-Some.ensures.cases.0) (e ∙ c.as_str.ensures)

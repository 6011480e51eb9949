use Rattle.std.proofs.Common.{ap, map, arith}
use Rattle.strings.proofs.Glued.{start_length}
use Rattle.strings.proofs.joining.joined_length.Goals as goal

pub loop-part-init : goal.loop-part-init
loop-part-init c = (
  omega arith,
  start_length c.args.separator.now c.in-Some.first.now.now (map (λ p. p.now) c.in-Some.others.now) (map (λ p. p.now) c.args.parts.now) c.len-length.result
      (ap (map (λ p. p.now)) c.in-Some.ensures.cases.0) c.len-length.ensures,
)

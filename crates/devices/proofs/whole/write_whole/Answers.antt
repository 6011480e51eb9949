use Rattle.std.proofs.Common.{◌<◌, ◌∙◌, arith}
use Rattle.std.proofs.Math.Seq.{take-add}
use Rattle.devices.proofs.DeviceLemmas.{Appends-append, take-rest}
use Rattle.devices.proofs.whole.write_whole.Goals as goal

pub loop-at-preserved : goal.loop-at-preserved
loop-at-preserved g c = record {
  within = omega (arith, c.in-Ok.ensures.bound);
  written = rw (take-add, ← take-rest c.loop-at.at c.args.text.now) (Appends-append _ _ _ _ _ c.loop-at.invariant.written c.in-Ok.ensures.bytes);
  counted = let some : 0 < c.in-Ok.n = omega (arith, c.in-Ok.n-test.1) in c.in-Ok.ensures.counted.0.0 some ∙ c.loop-at.invariant.counted;
}

use Rattle.std.proofs.Common.{◌++◌, arith, length-append}
use Rattle.devices.proofs.DeviceLemmas.{Consumes-append}
use Rattle.devices.proofs.whole.read_input.Goals as goal

pub returns-in-Err-clause-most : goal.returns-in-Err-clause-most
returns-in-Err-clause-most g c =
    let few = c.read_some.ensures.most.2 in
    let both = length-append c.loop-input.input.items c.read_some.ensures.most.0 in (
      c.loop-input.input.items ++ c.read_some.ensures.most.0,
      Consumes-append _ _ _ _ _ c.loop-input.invariant.taken c.read_some.ensures.most.1,
      omega (arith, few, both),
    )

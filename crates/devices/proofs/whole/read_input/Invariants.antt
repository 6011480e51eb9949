use Rattle.std.proofs.Common.{◌≡◌, ◌≤◌, ◌+◌, ◌-◌, vec_len}
use Rattle.std.specs.Io.KnownBytes.{Consumes}
use Rattle.devices.proofs.whole.read_input.Given as goal

abbrev pub invariant-loop-input : goal.invariant-loop-input
invariant-loop-input g l = record {
  taken : Consumes (g.S.Source.remaining l.fn.source) (g.S.Source.remaining l.source) l.input.items;
  limit : vec_len l.input ≤ l.fn.limit + 1;
  counted : g.S.Source.failures l.source ≡ g.S.Source.failures l.fn.source;
}

abbrev pub decreases-loop-input : goal.decreases-loop-input
decreases-loop-input g l = l.fn.limit + 2 - vec_len l.input

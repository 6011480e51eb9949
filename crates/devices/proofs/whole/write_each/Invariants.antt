use Rattle.std.proofs.Common.{◌≡◌, take, flat_map, string_bytes}
use Rattle.std.specs.Io.KnownBytes.{Appends}
use Rattle.devices.proofs.whole.write_each.Given as goal

abbrev pub invariant-loop-text : goal.invariant-loop-text
invariant-loop-text g l = record {
  written : Appends (g.K.Sink.contents l.fn.sink) (g.K.Sink.contents l.sink) (flat_map string_bytes (take l.text-index l.texts));
  counted : g.K.Sink.failures l.sink ≡ g.K.Sink.failures l.fn.sink;
}

use Rattle.std.proofs.Common.{sym, subst, suc, take, drop, flat_map, string_bytes}
use Rattle.devices.specs.Devices.{WritesBeginning}
use Rattle.devices.proofs.DeviceLemmas.{beginning_next, cut_at}
use Rattle.devices.proofs.whole.write_each.Goals as goal

pub returns-in-Err-clause-beginning : goal.returns-in-Err-clause-beginning
returns-in-Err-clause-beginning g c =
    let ts = c.args.texts.now in
    let i = c.loop-text.text-index in
    let old = g.K.Sink.contents c.args.sink.now in
    let mid = g.K.Sink.contents c.loop-text.sink in
    let new = g.K.Sink.contents c.write_whole.new.sink in
    let begun = subst (λ l. WritesBeginning mid new l) c.as_bytes.ensures.value c.in-Err.ensures.beginning in
    subst (λ l. WritesBeginning old new l) (sym (cut_at string_bytes ts i c.text-item.result c.loop-text-test.true c.text-item.is))
    (beginning_next old mid new (flat_map string_bytes (take i ts)) (string_bytes c.text-item.result) (flat_map string_bytes (drop (suc i) ts))
    c.loop-text.invariant.written begun)

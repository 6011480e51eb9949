use Rattle.std.proofs.Common.{refl}
use Rattle.label_order.proofs.Ordered.{one_more}
use Rattle.label_order.proofs.order.numbered.Goals as goal

pub loop-n-preserved : goal.loop-n-preserved
loop-n-preserved c =
    one_more c.args.graph.now.labels c.loop-n.all.items c.push.new.self.items (c.text.result, (c.label_of-label.result, c.loop-n.n)) c.loop-n.n c.in_ok-push.ensures.items refl
    c.label_of-label.ensures.value (c.label_of-label.ensures.legal, c.text.ensures) c.loop-n.invariant

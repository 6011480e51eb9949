use Rattle.std.proofs.Common.{◌∙◌, map, ap}
use Rattle.reporting.specs.Seen.{nodes_seen}
use Rattle.answers.specs.Nodes.{nodes_of}
use Rattle.label_order.specs.Ordered.{entry_seen}
use Rattle.answers.proofs.Told.{reports}
use Rattle.answers.proofs.report.told.Goals as goal

pub returns : goal.returns
returns g c = λ files workspace limit asked failing legal are is found.
    let told = c.args.found.now in
    reports files limit asked c.args.graph.now told (map entry_seen c.in_ok-entries.entries.items) is c.in_ok-entries.ensures.order found workspace legal are c.requires.few
    c.args.failing.now (nodes_seen c.deref-2.result.now) c.make_report.result failing
    (ap nodes_seen c.deref-2.ensures.value ∙ c.in_ok-nodes.ensures ∙ ap (λ es. nodes_of told (map entry_seen es)) c.deref.ensures.value)
    c.make_report.ensures.text c.make_report.ensures.loud

use Rattle.std.proofs.Common.{◌∙◌, ap, map}
use Rattle.label_order.proofs.Ordered.{entry_of, keyed_in_order, keyed_within}
use Rattle.label_order.proofs.order.by_label.Goals as goal

pub returns-clause-numbers : goal.returns-clause-numbers
returns-clause-numbers c =
    keyed_within c.args.graph.now.labels c.in_ok-keyed.keyed.items c.sort.new.self.items c.in_ok-entries.entries.items c.in_ok-keyed.ensures.entries c.in_ok-keyed.ensures.keyed
    c.in_ok-sort.ensures.permutation (c.in_ok-entries.ensures ∙ ap (map entry_of) c.deref.ensures.value)

pub returns-clause-order : goal.returns-clause-order
returns-clause-order c =
    keyed_in_order c.args.graph.now.labels c.in_ok-keyed.keyed.items c.sort.new.self.items c.in_ok-entries.entries.items c.in_ok-keyed.ensures.entries c.in_ok-keyed.ensures.keyed
    c.in_ok-sort.ensures.permutation (c.in_ok-entries.ensures ∙ ap (map entry_of) c.deref.ensures.value) c.in_ok-sort.ensures.sorted c.nodes-nodes.ensures.distinct

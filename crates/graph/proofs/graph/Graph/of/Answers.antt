use Rattle.std.proofs.Common.{◌≡◌, ◌∙◌, ap, map, refl, subst}
use Rattle.edges.specs.Edges.{EdgesView}
use Rattle.edges.specs.Rows.{IsGraph}
use Rattle.workspace.specs.Labels.{same_label}
use Rattle.graph.specs.Same.{same_label-decides, no_label, label_at}
use Rattle.graph.specs.Graphs.{IsGraphOf}
use Rattle.graph.proofs.Carried.{rows_graph, graph_of_labels}
use Rattle.graph.proofs.graph.Graph.of.Goals as goal

pub of-requires : goal.of-requires
of-requires g c =
    let r = c.in_ok-numbers.field-0 in
    record {
      graph = rows_graph same_label same_label-decides no_label (g.S.Dependencies.needs c.args.source.now) c.deref.result.now r.numbers r.deps c.in_ok-numbers.ensures.numbered c.in_ok-numbers.ensures.whole;
    }

pub invariant_of-result : goal.invariant_of-result
invariant_of-result g c =
    let needs = g.S.Dependencies.needs c.args.source.now in
    let r = c.in_ok-numbers.field-0 in
    let e = c.in_ok-edges.field-0 in
    let given = c.deref.result.now in
    let is_graph : IsGraph e.edges.deps = subst (λ (x : EdgesView). IsGraph x.deps) c.edges.view_is c.edges.invariant.graph in
    let labels : c.in_ok-labels.labels.items ≡ map (label_at r.numbers) e.origin.items = c.in_ok-labels.ensures ∙ ap (map (label_at r.numbers)) c.deref-2.ensures.value in
    let is : IsGraphOf needs given (record { labels = c.in_ok-labels.labels.items; edges = e.edges }) = graph_of_labels needs given given refl r.numbers r.deps c.in_ok-numbers.ensures.numbered c.in_ok-numbers.ensures.whole e.origin.items e.edges c.in_ok-edges.ensures.same is_graph c.in_ok-labels.labels.items labels in
    (is.size, is.nodes.once)

pub returns-clause-graph : goal.returns-clause-graph
returns-clause-graph g c =
    let r = c.in_ok-numbers.field-0 in
    let e = c.in_ok-edges.field-0 in
    let asked : c.deref.result.now ≡ c.args.labels.now = c.deref.ensures.value ∙ c.in_ok-asked.ensures in
    let is_graph : IsGraph e.edges.deps = subst (λ (x : EdgesView). IsGraph x.deps) c.edges.view_is c.edges.invariant.graph in
    let labels : c.in_ok-labels.labels.items ≡ map (label_at r.numbers) e.origin.items = c.in_ok-labels.ensures ∙ ap (map (label_at r.numbers)) c.deref-2.ensures.value in
    graph_of_labels (g.S.Dependencies.needs c.args.source.now) c.deref.result.now c.args.labels.now asked r.numbers r.deps c.in_ok-numbers.ensures.numbered c.in_ok-numbers.ensures.whole e.origin.items e.edges c.in_ok-edges.ensures.same is_graph
    c.in_ok-labels.labels.items labels

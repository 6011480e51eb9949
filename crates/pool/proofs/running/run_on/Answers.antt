use Rattle.std.proofs.Common.{◌<◌, length, subst, sym}
use Rattle.std.specs.List.{All}
use Rattle.std.proofs.lemmas.List.Elements.{All-from_get_or}
use Rattle.edges.specs.Rows.{ready_of}
use Rattle.pool.proofs.Plans.{ready_below}
use Rattle.pool.proofs.running.run_on.Goals as goal

-- a node that depends on none is a node of the graph
pub spread-requires-clause-nodes : goal.spread-requires-clause-nodes
spread-requires-clause-nodes g c =
    let rows = c.args.graph.now.deps in
    subst (λ k. All (λ n. n < k) c.ready.result.now) (sym c.nodes.ensures)
    (subst (All (λ n. n < length rows)) (sym c.ready.ensures)
    (All-from_get_or (λ n. n < length rows) (ready_of rows) 0 (ready_below rows)))

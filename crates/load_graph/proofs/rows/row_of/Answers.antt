use Rattle.load_graph.proofs.Naming.{numbers_more}
use Rattle.load_graph.proofs.rows.row_of.Goals as goal

pub loop-load-preserved : goal.loop-load-preserved
loop-load-preserved c = record {
  numbers = numbers_more c.args.paths.now c.args.loads.now c.loop-load.load-index c.load-item.result c.loop-load.row.items c.push.new.row.items c.loaded.result c.loop-load-test.true c.load-item.is c.loop-load.invariant.numbers
      c.loaded.ensures.value c.in_ok-push.ensures;
}

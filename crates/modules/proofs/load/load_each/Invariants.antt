use Rattle.modules.specs.Evaluation.{sources}
use Rattle.modules.specs.Loading.{AreDone}
use Rattle.modules.proofs.load.load_each.Given as goal

abbrev pub invariant-loop-n : goal.invariant-loop-n
invariant-loop-n g l = record {
  done_to : AreDone (sources (g.E.Evaluate.meaning l.evaluator) l.paths) l.n-items l.n-index l.done.items;
}

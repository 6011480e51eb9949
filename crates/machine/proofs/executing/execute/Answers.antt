use Rattle.call_stack.specs.LinkedView.{codes_of}
use Rattle.machine.proofs.Loop.{answers_meant, of_files}
use Rattle.machine.proofs.executing.execute.Goals as goal

pub returns-clause-means : goal.returns-clause-means
returns-clause-means g c files e =
    let ops = g.W.Operate.operations c.args.world.now in
    let law = c.compiled_code_is_correct.ensures in
    answers_meant ops (law.calls ops) (law.functions ops) (law.top_levels ops) files (codes_of c.args.linked.now) e c.args.start c.args.state.now
    c.run.result c.run.new.state c.run.ensures

pub returns-clause-compiled : goal.returns-clause-compiled
returns-clause-compiled g c = of_files (codes_of c.args.linked.now) c.args.linked.now.compiled

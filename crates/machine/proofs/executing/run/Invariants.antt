use Rattle.meaning.specs.Machine.{more}
use Rattle.call_stack.specs.LinkedView.{codes_of}
use Rattle.call_stack.specs.RunView.{config_of}
use Rattle.machine.specs.CurrentView.{IsOf}
use Rattle.machine.specs.StartView.{start_of}
use Rattle.machine.proofs.Loop.{Came, counted, steps_left}
use Rattle.machine.proofs.executing.run.Given as goal

abbrev pub invariant-loop-value : goal.invariant-loop-value
invariant-loop-value g l =
    let ops = g.W.Operate.operations l.world in
    let codes = codes_of l.linked in
    Came ops codes (start_of ops codes l.fn.start l.fn.state) (counted ops codes l.linked.compiled l.fn.start l.fn.state).0
    (more (config_of g.W.Operate.rest l.running l.state))
    × IsOf codes l.current l.running.top.value

abbrev pub decreases-loop-value : goal.decreases-loop-value
decreases-loop-value g l =
    let ops = g.W.Operate.operations l.world in
    let codes = codes_of l.linked in
    steps_left ops codes (counted ops codes l.linked.compiled l.fn.start l.fn.state).0 (more (config_of g.W.Operate.rest l.running l.state))

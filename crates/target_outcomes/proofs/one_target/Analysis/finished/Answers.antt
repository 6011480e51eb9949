use Rattle.analysis.specs.Seen.{dependencies_seen}
use Rattle.target_outcomes.specs.Seen.{implemented_seen, placed_seen}
use Rattle.target_outcomes.proofs.Steps.{gave, had}
use Rattle.target_outcomes.proofs.one_target.Analysis.finished.Goals as goal

pub returns-in-Ok : goal.returns-in-Ok
returns-in-Ok c =
    let h = rw c.in-Ok.is at c.in_ok-implemented.ensures in
    gave c.args.label.now c.args.target.now (dependencies_seen c.args.dependencies.now) c.self.inside.files.now c.args.self.now c.self.view_is
    (implemented_seen c.in-Ok.implemented) c.as_slice.result.now c.finish.result c.as_slice.ensures h c.finish.ensures

pub returns-in-Err : goal.returns-in-Err
returns-in-Err c =
    let h = rw c.in-Err.is at c.in_ok-implemented.ensures in
    had c.args.label.now c.args.target.now (dependencies_seen c.args.dependencies.now) c.self.inside.files.now c.args.self.now c.self.view_is
    (placed_seen c.in-Err.placed) c.implementation_fault.result h c.implementation_fault.ensures

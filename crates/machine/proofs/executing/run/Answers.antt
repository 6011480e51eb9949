use Rattle.std.proofs.Common.{◌∙◌, ap, Ok}
use Rattle.std.specs.Prelude.{map}
use Rattle.meaning.specs.Machine.{more, over, stuck}
use Rattle.frames.specs.Answers.{id_seen}
use Rattle.frames.specs.Seen.{shown}
use Rattle.call_stack.specs.ActiveView.{ids_seen}
use Rattle.call_stack.specs.CallView.{frame_seen}
use Rattle.call_stack.specs.LinkedView.{codes_of}
use Rattle.call_stack.specs.RunView.{config_of}
use Rattle.machine.specs.StartView.{start_of, started}
use Rattle.machine.proofs.Loop.{came_break, came_first, came_on, came_over, counted, falls, never_stuck}
use Rattle.machine.proofs.executing.run.Goals as goal

pub loop-value-init : goal.loop-value-init
loop-value-init g c =
    let ops = g.W.Operate.operations c.args.world.now in
    let codes = codes_of c.args.linked.now in
    let rest = g.W.Operate.rest in (
      came_first ops codes (start_of ops codes c.args.start c.args.state.now) (more (config_of rest c.in-Ok-Running.running c.begin.new.state))
          (counted ops codes c.args.linked.now.compiled c.args.start c.args.state.now)
          (c.in-Ok-Running.ensures ∙ ap (λ b. started rest b c.begin.new.state) c.in-Ok-Running.field-0-is),
      (c.of-current.ensures.code, rw c.deref.ensures at (ap id_seen c.of-current.ensures.function)),
    )

pub loop-value-smaller : goal.loop-value-smaller
loop-value-smaller g c =
    let ops = g.W.Operate.operations c.args.world.now in
    let codes = codes_of c.args.linked.now in
    let rest = g.W.Operate.rest in
    let r = c.step.new.r in
    falls ops codes (start_of ops codes c.args.start c.args.state.now) (counted ops codes c.args.linked.now.compiled c.args.start c.args.state.now).0
    (config_of rest c.loop-value.running c.loop-value.state) (config_of rest r c.step.new.state)
    (c.in-Ok-More.ensures.moves ∙ ap (λ q. shown rest (map (frame_seen rest) r.below) (ids_seen r.active) q r.top.value c.step.new.state) c.in-Ok-More.field-0-is)
    c.loop-value.invariant.0

pub loop-value-preserved : goal.loop-value-preserved
loop-value-preserved g c =
    let ops = g.W.Operate.operations c.args.world.now in
    let codes = codes_of c.args.linked.now in
    let rest = g.W.Operate.rest in
    let r = c.step.new.r in (
      came_on ops codes (start_of ops codes c.args.start c.args.state.now) (counted ops codes c.args.linked.now.compiled c.args.start c.args.state.now).0
          (config_of rest c.loop-value.running c.loop-value.state) (more (config_of rest r c.step.new.state))
          (c.in-Ok-More.ensures.moves ∙ ap (λ q. shown rest (map (frame_seen rest) r.below) (ids_seen r.active) q r.top.value c.step.new.state) c.in-Ok-More.field-0-is)
          c.loop-value.invariant.0,
      c.step.ensures.current (c.in-Ok-More.is ∙ ap Ok c.in-Ok-More.field-0-is),
    )

pub returns-in-Ok-Over-step : goal.returns-in-Ok-Over-step
returns-in-Ok-Over-step g c =
    let ops = g.W.Operate.operations c.args.world.now in
    let codes = codes_of c.args.linked.now in
    let rest = g.W.Operate.rest in
    let r = c.step.new.r in
    let x = start_of ops codes c.args.start c.args.state.now in
    let most = (counted ops codes c.args.linked.now.compiled c.args.start c.args.state.now).0 in
    came_over ops codes x most (Ok (c.in-Ok-Over-step.value, c.step.new.state))
    (came_on ops codes x most (config_of rest c.loop-value.running c.loop-value.state) (over (Ok (c.in-Ok-Over-step.value, c.step.new.state)))
    (c.in-Ok-Over-step.ensures.moves ∙ ap (λ q. shown rest (map (frame_seen rest) r.below) (ids_seen r.active) q r.top.value c.step.new.state) c.in-Ok-Over-step.field-0-is)
    c.loop-value.invariant.0)

pub unreachable-requires : goal.unreachable-requires
unreachable-requires g c =
    let ops = g.W.Operate.operations c.args.world.now in
    let codes = codes_of c.args.linked.now in
    let rest = g.W.Operate.rest in
    let r = c.step.new.r in
    let x = start_of ops codes c.args.start c.args.state.now in
    let most = (counted ops codes c.args.linked.now.compiled c.args.start c.args.state.now).0 in
    never_stuck ops codes x most
    (came_on ops codes x most (config_of rest c.loop-value.running c.loop-value.state) stuck
    (c.in-Ok-Stuck.ensures.moves ∙ ap (λ q. shown rest (map (frame_seen rest) r.below) (ids_seen r.active) q r.top.value c.step.new.state) c.in-Ok-Stuck.field-0-is)
    c.loop-value.invariant.0)

pub returns-in-Err-step : goal.returns-in-Err-step
returns-in-Err-step g c =
    let ops = g.W.Operate.operations c.args.world.now in
    let codes = codes_of c.args.linked.now in
    came_break ops codes (start_of ops codes c.args.start c.args.state.now) (counted ops codes c.args.linked.now.compiled c.args.start c.args.state.now).0
    (config_of g.W.Operate.rest c.loop-value.running c.loop-value.state) c.in-Err-step.stop c.in-Err-step.ensures.moves c.loop-value.invariant.0

use Rattle.std.proofs.Common.{◌≡◌, ◌∙◌, [], sym, ap, refl, subst, Some}
use Rattle.meaning.specs.Entry.{entry}
use Rattle.meaning.specs.Machine.{starting, starts}
use Rattle.frames.specs.Answers.{id_seen}
use Rattle.call_stack.specs.ActiveView.{ids_seen}
use Rattle.call_stack.specs.CallView.{Begins, here_at}
use Rattle.call_stack.specs.Filled.{by_position, fitting, top_of}
use Rattle.call_stack.proofs.CallSteps.{begins_same, starts_fits, whatever_it_is}
use Rattle.call_stack.proofs.calling.call_by_position.Goals as goal

pub returns : goal.returns
returns g c =
    let ops = g.W.Operate.operations c.args.world.now in
    let here = here_at c.args.place (ids_seen c.args.active.now) in
    let f = id_seen c.args.function in
    let d = c.args.code.now in
    let a = by_position (top_of c.args.count [] c.args.values.now) in
    let l = c.slots_by_position.new.slots in
    let t : entry d.params d.slots (ops.defaults f c.args.state.now) a ≡ Some l =
    sym c.in_ok-fits.ensures.fills ∙ ap (λ b. fitting b l) c.if-not-fits.false in
    record {
      begins = λ codes. begins_same g.W.Operate.rest (λ below. starts ops codes here f a below c.args.state.now (Some d))
          (λ below. starting ops codes here f below c.args.state.now (Some l)) c.enter.result (ids_seen c.enter.new.active) c.enter.new.state
          (λ below. starts_fits ops codes here f a below c.args.state.now (Some d) d l refl t)
          (subst (λ xs. Begins g.W.Operate.rest (λ below. starting ops codes (here_at c.args.place (ids_seen xs)) f below c.args.state.now (Some l))
          c.enter.result (ids_seen c.enter.new.active) c.enter.new.state) c.spare.ensures (c.enter.ensures codes));
      left = whatever_it_is c.enter.result c.in_ok-fits.ensures.left;
    }

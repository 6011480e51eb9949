use Rattle.std.proofs.Common.{◌∙◌, IfOk}
use Rattle.parallel.specs.Made.{AreMade}
use Rattle.parallel.proofs.Slots.{all_rest}
use Rattle.parallel.proofs.made.put_all.Goals as goal

pub loop-list-preserved-in-Ok : goal.loop-list-preserved-in-Ok
loop-list-preserved-in-Ok g c = record {
  len = c.put_made.ensures.len ∙ c.loop-list.invariant.len;
  slots = c.put_made.ensures.slots;
  rest = all_rest (λ l. IfOk l (λ made. AreMade g.F.Fn c.args.f.now made.items)) c.loop-list.list-iterator.rest.items
      c.in-Some.list c.next.new.self.rest.items c.in-Some.ensures.steps.0 c.loop-list.invariant.rest;
}

pub loop-list-preserved : goal.loop-list-preserved
loop-list-preserved g c = record {
  len = c.loop-list.invariant.len;
  slots = c.loop-list.invariant.slots;
  rest = all_rest (λ l. IfOk l (λ made. AreMade g.F.Fn c.args.f.now made.items)) c.loop-list.list-iterator.rest.items
      c.in-Some.list c.next.new.self.rest.items c.in-Some.ensures.steps.0 c.loop-list.invariant.rest;
}

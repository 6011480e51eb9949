use Rattle.std.proofs.Common.{◌∙◌, Some}
use Rattle.std.proofs.lemmas.List.{length-set}
use Rattle.parallel.specs.Made.{MayGive}
use Rattle.parallel.proofs.Slots.{fit_set, made_front, all_rest}
use Rattle.parallel.proofs.made.put_made.Goals as goal

pub loop-place-preserved-then-place-slots : goal.loop-place-preserved-then-place-slots
loop-place-preserved-then-place-slots g c =
    let f = c.args.f.now in
    let x = c.in-Some.x in
    let place = c.in-Some.place in
    let all = c.loop-place.place-iterator.rest.items in
    let rest = c.next.new.self.rest.items in
    let is = c.in-Some.ensures.steps.0 in
    let made = c.loop-place.invariant.rest in
    let here = made_front g.F.Fn f all place x rest is made in
    record {
      len = length-set c.loop-place.slots place (Some x) ∙ c.loop-place.invariant.len;
      slots = fit_set g.F.Fn f c.loop-place.slots place x here c.if-place-slots.true c.loop-place.invariant.slots;
      rest = all_rest (λ m. MayGive g.F.Fn f m.0 m.1) all (place, x) rest is made;
    }

pub loop-place-preserved-then-place-slots-2 : goal.loop-place-preserved-then-place-slots-2
loop-place-preserved-then-place-slots-2 g c =
    let f = c.args.f.now in
    let x = c.in-Some.x in
    let place = c.in-Some.place in
    let all = c.loop-place.place-iterator.rest.items in
    let rest = c.next.new.self.rest.items in
    let is = c.in-Some.ensures.steps.0 in
    let made = c.loop-place.invariant.rest in
    let here = made_front g.F.Fn f all place x rest is made in
    record {
      len = length-set c.loop-place.slots place (Some x) ∙ c.loop-place.invariant.len;
      slots = fit_set g.F.Fn f c.loop-place.slots place x here c.if-place-slots.true c.loop-place.invariant.slots;
      rest = all_rest (λ m. MayGive g.F.Fn f m.0 m.1) all (place, x) rest is made;
    }

pub loop-place-preserved : goal.loop-place-preserved
loop-place-preserved g c = record {
  len = c.loop-place.invariant.len;
  slots = c.loop-place.invariant.slots;
  rest = all_rest (λ m. MayGive g.F.Fn c.args.f.now m.0 m.1) c.loop-place.place-iterator.rest.items
      (c.in-Some.place, c.in-Some.x) c.next.new.self.rest.items c.in-Some.ensures.steps.0 c.loop-place.invariant.rest;
}

use Rattle.std.proofs.Common.{◌≡◌, ◌∙◌, ◌+◌, ap, sym, subst, length, drop, arith}
use Rattle.std.proofs.lemmas.List.{length_push}
use Rattle.parallel.specs.Made.{AreGiven, FitsSlot, MayGive}
use Rattle.parallel.proofs.Slots.{at_front, within_front, behind_front, given_push}
use Rattle.parallel.proofs.made.all_made.Goals as goal

pub made_at-requires-clause-slot : goal.made_at-requires-clause-slot
made_at-requires-clause-slot g c =
    let slots = c.args.slots.items in
    let place = length c.loop-slot.all.items in
    let slot = c.in-Some.slot in
    let rest = c.next.new.self.rest.items in
    let is = sym c.loop-slot.invariant.rest ∙ c.in-Some.ensures.steps.0 in
    let within = within_front slots place slot rest is in
    let same = c.loop-slot.all.ok in
    let there : c.len-in-loop-slot.result ≡ place = c.len-in-loop-slot.ensures ∙ omega (arith, same) in
    subst (λ k. FitsSlot g.F.Fn c.args.f.now k slot) (sym there)
    (subst (λ o. FitsSlot g.F.Fn c.args.f.now place o) (at_front slots place slot slot rest is) (c.requires.slots place slot within))

pub loop-slot-preserved : goal.loop-slot-preserved
loop-slot-preserved g c =
    let f = c.args.f.now in
    let all = c.loop-slot.all.items in
    let slots = c.args.slots.items in
    let place = length all in
    let slot = c.in-Some.slot in
    let rest = c.next.new.self.rest.items in
    let x = c.in_ok-x.x in
    let pushed = c.in_ok-push.ensures.items in
    let is = sym c.loop-slot.invariant.rest ∙ c.in-Some.ensures.steps.0 in
    let grown : length c.push.new.self.items ≡ place + 1 = ap length pushed ∙ length_push all x in
    let len = c.loop-slot.invariant.len in
    let left = ap length c.in-Some.ensures.steps.0 in
    let same = c.loop-slot.all.ok in
    let there : c.len-in-loop-slot.result ≡ place = c.len-in-loop-slot.ensures ∙ omega (arith, same) in
    let here = subst (λ k. MayGive g.F.Fn f k x) there c.in_ok-x.ensures in
    record {
      rest = sym (ap (λ n. drop n slots) grown ∙ behind_front slots place slot rest is);
      len = omega (arith, grown, len, left);
      each = subst (λ l. AreGiven g.F.Fn f l) (sym pushed) (given_push g.F.Fn f all x here c.loop-slot.invariant.each);
    }

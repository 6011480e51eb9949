use Rattle.std.proofs.Common.{◌≡◌, sym, ap, ◌∙◌, refl, arith, cond, subst, slice_get, Some}
use Rattle.depsets.specs.Rose.{label, child_lighter}
use Rattle.depsets.specs.Walker.{walk_of}
use Rattle.depsets.specs.Keys.{keep, has}
use Rattle.depsets.specs.Listed.{inside, same_id}
use Rattle.depsets.specs.Skip.{Walk}
use Rattle.depsets.specs.declared.depset.Id.{Id}
use Rattle.depsets.specs.declared.element.Element.{Element}
use Rattle.depsets.proofs.Turns.{visited_next, visited_is}
use Rattle.depsets.proofs.listing.Walker.+walk.Goals as goal

pub visit_children-visit-requires : goal.visit_children-visit-requires
visit_children-visit-requires t c =
    let h = child_lighter c.args.d.now c.loop-i.i c.in_ok-child.child.now
    (subst (λ l. slice_get l c.loop-i.i ≡ Some c.in_ok-child.child.now) c.children-children.ensures c.in_ok-child.ensures.item) in
    (omega (arith, c.decreases, h), tt)

pub visit-visit_new-requires : goal.visit-visit_new-requires
visit-visit_new-requires t c =
    (omega (arith, c.decreases), ap (has same_id c.args.self.now.seen) (sym c.digested_id.ensures) ∙ sym c.contains.ensures ∙ c.if-contains.false)

pub visit_new-returns : goal.visit_new-returns
visit_new-returns t c =
    let s = walk_of c.args.self.now in
    let d = c.args.d.now in
    let put = λ (r : Walk Id Element). let w : Walk Id Element = record { seen = keep same_id r.seen (label d).id; items = r.items; steps = r.steps } in w in
    let m = walk_of c.visit_inside.new.self in
    let seen = c.in_ok-put.ensures ∙ ap (keep same_id m.seen) c.digested_id.ensures in
    (λ j. record { seen = seen j; items = m.items; steps = m.steps })
    ∙ ap put c.in_ok-visit_inside.ensures
    ∙ sym (visited_is c.args.preorder d s ∙ ap (λ b. cond b s (put (inside c.args.preorder d s))) c.requires)

pub visit_children-loop-i-preserved : goal.visit_children-loop-i-preserved
visit_children-loop-i-preserved t c =
    visited_next c.args.preorder c.children-children.result.now c.loop-i.i c.in_ok-child.child.now (walk_of c.loop-i.self)
    (walk_of (record { seen = c.loop-i.self.seen; items = c.loop-i.self.items; cursor = c.read.new.self })) (walk_of c.visit.new.self)
    c.in_ok-child.ensures.item refl refl c.in_ok-child.ensures.steps c.in_ok-visit.ensures
    ∙ c.loop-i.invariant

use Rattle.std.proofs.Common.{◌≡◌, ap, ◌∙◌, Bool, List, []}
use Rattle.depsets.specs.Rose.{Rose, label}
use Rattle.depsets.specs.Own.{Own}
use Rattle.depsets.specs.Skip.{Walk}
use Rattle.depsets.specs.Orders.{is_preorder}
use Rattle.depsets.specs.Walker.{walk_of}
use Rattle.depsets.specs.Listed.{visited}
use Rattle.depsets.specs.declared.depset.Id.{Id}
use Rattle.depsets.specs.declared.element.Element.{Element}
use Rattle.depsets.proofs.depset.Depset.listed_by_walk.Goals as goal

-- where the walk began and what it is then
ends : (d : Rose Own) (pre : Bool) (seen : List Id) (items : List Element) (w : Walk Id Element) → seen ≡ [] → items ≡ [] → pre ≡ is_preorder (label d).order
    → w ≡ visited pre d (record { seen = seen; items = items; steps = 1 })
    → w ≡ visited (is_preorder (label d).order) d (record { seen = []; items = []; steps = 1 })
ends d pre seen items w p q r h = h ∙ λ j. visited (r j) d (record { seen = p j; items = q j; steps = 1 })

pub returns-clause-items : goal.returns-clause-items
returns-clause-items c =
    let d = c.args.self.now in
    let e = ends d c.is_preorder.result c.in_ok-seen.seen c.in_ok-taken.taken (walk_of c.visit.new.self) c.in_ok-seen.ensures c.in_ok-taken.ensures
    (c.is_preorder.ensures ∙ ap is_preorder c.order.ensures) c.in_ok-visit.ensures in
    c.of.ensures ∙ ap (λ w. w.items) e

pub returns-clause-steps : goal.returns-clause-steps
returns-clause-steps c =
    let d = c.args.self.now in
    let e = ends d c.is_preorder.result c.in_ok-seen.seen c.in_ok-taken.taken (walk_of c.visit.new.self) c.in_ok-seen.ensures c.in_ok-taken.ensures
    (c.is_preorder.ensures ∙ ap is_preorder c.order.ensures) c.in_ok-visit.ensures in
    ap (λ w. w.steps) e

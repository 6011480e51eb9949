use Rattle.std.proofs.Common.{◌-◌, sym, ap, ◌∙◌, subst}
use Rattle.ticks.specs.Ticking.{Count, after_tick, entered}
use Rattle.values.specs.Tree.{branch}
use Rattle.visits.specs.Revisit.{Goes, visit_at, visited, branch_visited}
use Rattle.visits.proofs.ExtentLemmas.{not-at-once}
use Rattle.visits.proofs.RevisitLemmas.{visit-opened}
use Rattle.visits.proofs.revisit.visit_branch.Goals as goal

pub returns-in-Err : goal.returns-in-Err
returns-in-Err c =
    let n = c.args.left in
    let limb = branch c.args.limb.now in
    let now = c.visit_at_once.new.ticks in
    let inside = λ (d : Count). visited (entered (n - 1)) (visit_at (n - 1)) limb d in
    let same = not-at-once c.visit_at_once.result n c.extent.result c.args.ticks.now now c.if-visit_at_once.false c.visit_at_once.ensures in
    ap (λ d. visit_at n limb d) (sym same) ∙ visit-opened n limb now ∙ ap (λ r. after_tick r inside) c.in-Err.ensures

pub returns : goal.returns
returns c =
    let n = c.args.left in
    let limb = branch c.args.limb.now in
    let now = c.visit_at_once.new.ticks in
    let inside = λ (d : Count). visited (entered (n - 1)) (visit_at (n - 1)) limb d in
    let same = not-at-once c.visit_at_once.result n c.extent.result c.args.ticks.now now c.if-visit_at_once.false c.visit_at_once.ensures in
    subst (λ d. Goes (visit_at n limb d) c.visit_node.result c.visit_node.new.ticks) same
    (subst (λ r. Goes r c.visit_node.result c.visit_node.new.ticks)
    (sym (visit-opened n limb now ∙ ap (λ r. after_tick r inside) c.in_default.ensures.0
    ∙ ap (λ b. branch_visited (entered (n - 1)) (visit_at (n - 1)) b c.enter.new.self) (sym c.node.ensures))) c.visit_node.ensures)

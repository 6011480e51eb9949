use Rattle.std.proofs.Common.{arith, ◌+◌, drop, sym, subst}
use Rattle.scopes.proofs.NameLemmas.{drop_at}
use Rattle.scopes.proofs.LevelLemmas.{IsLeft, all_left, one_left}
use Rattle.scopes.proofs.levels.restore.Goals as goal

pub loop-bound-init : goal.loop-bound-init
loop-bound-init c = λ ls h. all_left c.args.slots.now.entries c.args.level.now ls h

pub loop-bound-preserved : goal.loop-bound-preserved
loop-bound-preserved c =
    let b = c.bound-item.result in
    let rest = drop (c.loop-bound.bound-index + 1) c.args.level.now in
    let here = drop_at c.args.level.now c.loop-bound.bound-index b (omega (arith, c.loop-bound-test.true)) c.bound-item.is in
    λ ls h.
    subst (λ es. IsLeft rest es ls) (sym c.set_slot.ensures)
    (one_left b rest c.loop-bound.slots.entries ls (subst (λ bs. IsLeft bs c.loop-bound.slots.entries ls) here (c.loop-bound.invariant ls h)))

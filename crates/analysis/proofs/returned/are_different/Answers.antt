use Rattle.std.proofs.Common.{◌≡◌, ◌∙◌, ◌++◌, ◌∷◌, ◌+◌, [], false, List, take, drop, ap, sym, subst}
use Rattle.std.proofs.lemmas.List.{take_more}
use Rattle.values.specs.View.{FrozenTree}
use Rattle.targets.specs.Steps.{are_instances}
use Rattle.analysis.specs.Returned.{AreReturned}
use Rattle.analysis.proofs.Returning.{returned_none, split_at}
use Rattle.analysis.proofs.returned.are_different.Goals as goal

pub loop-value-init : goal.loop-value-init
loop-value-init c = returned_none c.new-seen.result c.new-seen.ensures.empty

pub returns-then-not-branch : goal.returns-then-not-branch
returns-then-not-branch c =
    let ts = c.args.values.now in let i = c.loop-value.value-index in
    let was = c.in_ok-is_new.ensures (take i ts) c.loop-value.invariant in
    sym (ap are_instances (split_at ts i c.value-item.result c.loop-value-test.true)
    ∙ subst (λ (t : FrozenTree). are_instances (take i ts ++ t ∷ drop (i + 1) ts) ≡ false) c.value-item.is (was.1 c.if-not-branch.true (drop (i + 1) ts)))

pub loop-value-preserved : goal.loop-value-preserved
loop-value-preserved c =
    let ts = c.args.values.now in let i = c.loop-value.value-index in
    let was = c.in_ok-is_new.ensures (take i ts) c.loop-value.invariant in
    subst (λ (us : List FrozenTree). AreReturned us c.is_new.new.seen)
    (ap (λ (t : FrozenTree). take i ts ++ t ∷ []) c.value-item.is ∙ sym (take_more ts i c.value-item.result c.loop-value-test.true))
    (was.0 c.if-not-branch.false)

use Rattle.std.proofs.Common.{◌∙◌, ◌++◌, ◌∷◌, [], List, take, take_all, ap, sym, subst}
use Rattle.std.proofs.lemmas.List.{take_more}
use Rattle.values.specs.View.{FrozenTree}
use Rattle.analysis.specs.Returned.{HaveNumbers}
use Rattle.analysis.proofs.Returning.{numbered_none}
use Rattle.analysis.proofs.offered.numbers_of.Goals as goal

pub loop-value-init : goal.loop-value-init
loop-value-init c = numbered_none c.new-seen.result c.new-seen.ensures.empty

pub loop-value-preserved : goal.loop-value-preserved
loop-value-preserved c =
    let ts = c.args.values.now in let i = c.loop-value.value-index in
    subst (λ (us : List FrozenTree). HaveNumbers us c.note.new.seen)
    (ap (λ (t : FrozenTree). take i ts ++ t ∷ []) c.value-item.is ∙ sym (take_more ts i c.value-item.result c.loop-value-test.true))
    (c.in_ok-note.ensures (take i ts) c.loop-value.invariant)

pub returns : goal.returns
returns c =
    subst (λ (us : List FrozenTree). HaveNumbers us c.loop-value.seen)
    (take_all c.loop-value.value-index c.args.values.now c.loop-value-test.false) c.loop-value.invariant

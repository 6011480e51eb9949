use Rattle.std.proofs.Common.{◌+◌, ◌∙◌, [], ◌∷◌, Some, drop, refl, sym, ap}
use Rattle.std.proofs.lemmas.List.{drop_more}
use Rattle.depsets.specs.Elements.{goes_on, type_after, joined}
use Rattle.depsets.proofs.TypeLemmas.{joined_goes}
use Rattle.depsets.proofs.depset.type_of_direct.Goals as goal

pub loop-element-preserved : goal.loop-element-preserved
loop-element-preserved c =
    let es = c.args.direct.now in let i = c.loop-element.element-index in let e = c.element-item.result in let known = c.loop-element.known in
    let rest = ap (λ x. x ∷ drop (i + 1) es) c.element-item.is ∙ sym (drop_more es i e c.loop-element-test.true) in
    let goes = joined_goes known c.in-Ok.both (e ∷ []) (drop (i + 1) es) refl (ap (λ t. joined known (Some t)) (sym c.element_type.ensures) ∙ c.in-Ok.ensures) in
    record {
      goes = goes.0 ∙ ap (goes_on known) rest ∙ c.loop-element.invariant.goes;
      after = goes.1 ∙ ap (type_after known) rest ∙ c.loop-element.invariant.after;
    }

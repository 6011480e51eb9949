use Rattle.std.proofs.Common.{◌+◌, ◌∙◌, ◌∷◌, drop, sym, ap}
use Rattle.std.proofs.lemmas.List.{drop_more}
use Rattle.depsets.specs.Rose.{roses}
use Rattle.depsets.specs.Elements.{elements, elements_of, goes_on, type_after, joined}
use Rattle.depsets.proofs.TypeLemmas.{joined_goes}
use Rattle.depsets.proofs.depset.type_with_children.Goals as goal

pub loop-child-preserved : goal.loop-child-preserved
loop-child-preserved c =
    let ds = c.args.children.now in let i = c.loop-child.child-index in let d = c.child-item.result in let known = c.loop-child.known in
    let rest = ap (λ x. x ∷ drop (i + 1) ds) c.child-item.is ∙ sym (drop_more ds i d c.loop-child-test.true) in
    let goes = joined_goes known c.in-Ok.both (elements d) (elements_of (roses (drop (i + 1) ds))) c.element_type.ensures.uniform
    (ap (joined known) (sym c.element_type.ensures.first) ∙ c.in-Ok.ensures) in
    record {
      goes = goes.0 ∙ ap (λ l. goes_on known (elements_of (roses l))) rest ∙ c.loop-child.invariant.goes;
      after = goes.1 ∙ ap (λ l. type_after known (elements_of (roses l))) rest ∙ c.loop-child.invariant.after;
    }

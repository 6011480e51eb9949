use Rattle.std.proofs.Common.{◌≡◌, None, sym, ◌∙◌, subst}
use Rattle.values.specs.Shape.{shape}
use Rattle.operations.specs.States.{Does}
use Rattle.operations.specs.Changes.{extension}
use Rattle.operations.specs.Operators.{extended_or_sum}
use Rattle.state.proofs.operators.add_in_place.Goals as goal

pub returns-in-Ok-None : goal.returns-in-Ok-None
returns-in-Ok-None c =
    let s = c.args.state.now in
    let y = c.args.y.now in
    let none : extension (shape s.heap c.args.x) (shape s.heap y) ≡ None =
    subst (λ x. extension (shape s.heap x) (shape s.heap y) ≡ None) c.item.ensures
    (sym c.in-Ok-None.ensures ∙ c.in-Ok-None.field-0-is) in
    subst (λ o. Does (extended_or_sum o c.args.x y) s c.plus.result c.plus.new.state) (sym none) c.plus.ensures

use Rattle.std.proofs.Common.{◌≡◌, ◌∙◌, ap, subst, map}
use Rattle.std.specs.Prelude.{option_map, IfOk, IfSome}
use Rattle.operations.specs.Items.{at_place}
use Rattle.contexts.specs.Fields.{attribute_value}
use Rattle.contexts.proofs.Named.{mapped_at, named_at}
use Rattle.contexts.proofs.context.TargetContext.attribute.Goals as goal

pub returns-in-Some : goal.returns-in-Some
returns-in-Some g c =
    let x = c.args.self.now in let t = x.target.now in let f = attribute_value x.dependencies in
    let p = c.attribute_place-place.result in
    c.at.ensures ∙ ap (λ vs. at_place vs p) (subst (λ o. IfSome o (λ a. a ≡ map f t.values)) c.in-Some.is x.made)
    ∙ mapped_at f t.values p
    ∙ ap (λ q. option_map f (at_place t.values q)) c.attribute_place-place.ensures
    ∙ ap (option_map f) (named_at c.args.name.now t.rule.attributes t.values)

pub returns-in-None : goal.returns-in-None
returns-in-None g c =
    let x = c.args.self.now in let t = x.target.now in let f = attribute_value x.dependencies in
    let p = c.attribute_place-place.result in
    subst (λ w. IfOk c.made_at.result (λ o. o ≡ w))
    (ap (λ vs. option_map f (at_place vs p)) c.as_slice.ensures
    ∙ ap (λ q. option_map f (at_place t.values q)) c.attribute_place-place.ensures
    ∙ ap (option_map f) (named_at c.args.name.now t.rule.attributes t.values))
    c.made_at.ensures

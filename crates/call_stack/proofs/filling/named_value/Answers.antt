use Rattle.std.proofs.Common.{◌≡◌, ◌∙◌, sym, ap}
use Rattle.std.specs.Prelude.{List, ℕ, Option}
use Rattle.call_stack.proofs.Named.{at, lookup_place}
use Rattle.first_places.specs.Places.{place_named}
use Rattle.call_stack.proofs.filling.named_value.Goals as goal

pub returns-in-Some : goal.returns-in-Some
returns-in-Some c =
    c.value_at.ensures ∙ sym (lookup_place c.args.param.now c.args.names.now c.args.named.now ∙ ap (λ o. at o c.args.named.now)
    (ap (λ x. place_named x c.args.names.now) (sym c.as_str.ensures) ∙ sym c.get.ensures ∙ c.in-Some.is))

pub returns-in-None : goal.returns-in-None
returns-in-None c =
    sym (lookup_place c.args.param.now c.args.names.now c.args.named.now ∙ ap (λ o. at o c.args.named.now)
    (ap (λ x. place_named x c.args.names.now) (sym c.as_str.ensures) ∙ sym c.get.ensures ∙ c.in-None.is))

use Rattle.std.proofs.Common.{length, refl, sym, ap, ◌∙◌, option_map, option_copied}
use Rattle.std.proofs.lemmas.Option.{slice_get_read}
use Rattle.values.specs.Shape.{value_of}
use Rattle.values.proofs.SeeLemmas.{lookup-found, lookup-past, lookup-none}
use Rattle.values.proofs.sees.tree_of_key.Goals as goal

pub returns-in_err-place : goal.returns-in_err-place
returns-in_err-place c =
    ap (λ r. option_map value_of (option_copied r)) c.from_residual.ensures
    ∙ sym (lookup-none c.args.key.now c.args.keys.now.keys c.args.values.now (sym c.in_err-place.ensures.index))

pub returns-in_err-get : goal.returns-in_err-get
returns-in_err-get c =
    ap (λ r. option_map value_of (option_copied r)) c.from_residual-in_err-get.ensures
    ∙ sym (lookup-past c.args.key.now c.args.keys.now.keys c.args.values.now c.in_ok-place.place (sym c.in_ok-place.ensures.index)
    c.in_err-get.ensures.lookup.3)

pub returns : goal.returns
returns c =
    sym (lookup-found c.args.key.now c.args.keys.now.keys c.args.values.now c.in_ok-place.place c.in_ok-get.field-0.now
    (sym c.in_ok-place.ensures.index) (slice_get_read c.args.values.now (length c.args.values.now) c.in_ok-place.place c.in_ok-get.field-0.now refl c.in_ok-get.ensures.lookup.3.0 c.in_ok-get.ensures.lookup.1))

use Rattle.std.proofs.Common.{◌≡◌, ◌≤◌, length, sym, subst, refl, ap, ◌∙◌, slice_get, Some, MatchOption, arith}
use Rattle.std.proofs.lemmas.Option.{slice_get_read}
use Rattle.values.specs.Seeing.{entry_value}
use Rattle.values.specs.Shape.{zip}
use Rattle.values.proofs.SeeLemmas.{length-zip, none_at, zip-place}
use Rattle.values.proofs.sees.pair_at.Goals as goal

pub returns-in_err-get_index : goal.returns-in_err-get_index
returns-in_err-get_index c =
    let ks = c.args.keys.now.keys in
    let ts = c.args.values.now in
    let past = none_at ks c.args.place (sym c.in_err-get_index.ensures.key) in
    subst (λ r. MatchOption r (length (zip ks ts) ≤ c.args.place) (λ e. slice_get (zip ks ts) c.args.place ≡ Some (entry_value e)))
    (sym c.from_residual.ensures) (omega (arith, length-zip ks ts, past))

pub returns-in_err-get : goal.returns-in_err-get
returns-in_err-get c =
    let ks = c.args.keys.now.keys in
    let ts = c.args.values.now in
    subst (λ r. MatchOption r (length (zip ks ts) ≤ c.args.place) (λ e. slice_get (zip ks ts) c.args.place ≡ Some (entry_value e)))
    (sym c.from_residual-in_err-get.ensures) (omega (arith, length-zip ks ts, c.in_err-get.ensures.lookup.3))

pub returns : goal.returns
returns c =
    zip-place c.args.keys.now.keys c.args.values.now c.args.place c.in_ok-get_index.field-0.now c.in_ok-get.field-0.now
    (sym c.in_ok-get_index.ensures.key) (slice_get_read c.args.values.now (length c.args.values.now) c.args.place c.in_ok-get.field-0.now refl c.in_ok-get.ensures.lookup.3.0 c.in_ok-get.ensures.lookup.1)
    ∙ ap (λ v. Some (c.in_ok-get_index.field-0.now, v)) (sym c.item.ensures)

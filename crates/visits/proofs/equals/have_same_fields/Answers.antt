use Rattle.std.proofs.Common.{◌+◌, drop, sym, ap, ◌∙◌, ◌&&◌}
use Rattle.values.specs.Seeing.{option_value, slot_values}
use Rattle.visits.specs.Equal.{same_given}
use Rattle.visits.proofs.EqualLemmas.{given-lengths, given-next, given-one}
use Rattle.visits.proofs.equals.have_same_fields.Goals as goal

pub returns-then-len : goal.returns-then-len
returns-then-len c =
    sym (given-lengths (slot_values c.args.xs.now) (slot_values c.args.ys.now) (λ e. c.if-len.true (c.len.ensures ∙ e ∙ sym c.len-2.ensures)))

pub returns-then-not-are_alike : goal.returns-then-not-are_alike
returns-then-not-are_alike c =
    let xs = slot_values c.args.xs.now in
    let ys = slot_values c.args.ys.now in
    let i = c.loop-i.i in
    sym (sym c.loop-i.invariant
    ∙ given-next xs ys i (option_value c.slot-x.result) (option_value c.slot-y.result) c.slot-x.ensures c.slot-y.ensures
    ∙ given-one (option_value c.slot-x.result) (option_value c.slot-y.result) (drop (i + 1) xs) (drop (i + 1) ys)
    ∙ ap (λ b. b && same_given (drop (i + 1) xs) (drop (i + 1) ys)) (sym c.are_alike.ensures ∙ c.if-not-are_alike.true))

pub loop-i-preserved : goal.loop-i-preserved
loop-i-preserved c =
    let xs = slot_values c.args.xs.now in
    let ys = slot_values c.args.ys.now in
    let i = c.loop-i.i in
    sym (given-next xs ys i (option_value c.slot-x.result) (option_value c.slot-y.result) c.slot-x.ensures c.slot-y.ensures
    ∙ given-one (option_value c.slot-x.result) (option_value c.slot-y.result) (drop (i + 1) xs) (drop (i + 1) ys)
    ∙ ap (λ b. b && same_given (drop (i + 1) xs) (drop (i + 1) ys)) (sym c.are_alike.ensures ∙ c.if-not-are_alike.false))
    ∙ c.loop-i.invariant

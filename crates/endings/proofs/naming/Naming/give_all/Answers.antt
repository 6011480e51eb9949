use Rattle.std.proofs.Common.{◌≤◌, ◌+◌, length, drop, refl, sym, ap, ◌∙◌, arith, drop_of_length-le}
use Rattle.std.proofs.lemmas.Option.{slice_get_read}
use Rattle.depsets.proofs.Turns.{drop_at}
use Rattle.evaluation.specs.Naming.{names_given}
use Rattle.endings.proofs.Given.{drop_none, given_all}
use Rattle.endings.proofs.naming.Naming.give_all.Goals as goal

pub returns-in_default : goal.returns-in_default
returns-in_default c =
    sym (ap (λ xs. names_given c.loop-place.self xs (drop c.loop-place.place c.args.globals.now)) (drop_none c.args.names.now c.loop-place.place c.in_default.ensures))
    ∙ c.loop-place.invariant

pub loop-place-preserved : goal.loop-place-preserved
loop-place-preserved c =
    let i = c.loop-place.place in
    let gs = c.args.globals.now in
    let one = c.index-globals-place.result in
    let there = slice_get_read gs (length gs) i one refl c.loop-place-test.true c.index-globals-place.is in
    ap (λ s. names_given s (drop (i + 1) c.args.names.now) (drop (i + 1) c.args.globals.now)) c.in_ok-give_global.ensures
    ∙ sym (λ j. names_given c.loop-place.self (drop_at c.args.names.now i c.in-Some.name.now c.in-Some.ensures j) (drop_at gs i one there j))
    ∙ c.loop-place.invariant

pub returns : goal.returns
returns c =
    let all : length c.args.globals.now ≤ c.loop-place.place = omega (arith, c.loop-place-test.false) in
    sym (given_all c.loop-place.self (drop c.loop-place.place c.args.names.now) (drop c.loop-place.place c.args.globals.now) (drop_of_length-le c.args.globals.now all))
    ∙ c.loop-place.invariant

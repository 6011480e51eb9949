use Rattle.std.proofs.Common.{true, sym, subst}
use Rattle.std.specs.BTreeSet.{Updates}
use Rattle.analysis.specs.Returned.{numbers_cmp}
use Rattle.analysis.proofs.Returning.{numbered_last, numbered_still}
use Rattle.analysis.proofs.offered.note.Goals as goal

pub returns-in_ok-insert-in-Some : goal.returns-in_ok-insert-in-Some
returns-in_ok-insert-in-Some c ts h =
    let olds = c.args.seen.now in
    numbered_last ts olds c.insert.new.self c.args.value.now c.in-Some.provider.now (sym c.in-Some.ensures) h
    (subst (λ k. Updates numbers_cmp olds c.insert.new.self k true) c.numbers.ensures c.in_ok-insert-in-Some.ensures.updates)

pub returns-in-None : goal.returns-in-None
returns-in-None c ts h = numbered_still ts c.args.seen.now c.args.value.now (sym c.in-None.ensures) h

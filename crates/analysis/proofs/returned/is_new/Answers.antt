use Rattle.std.proofs.Common.{◌∙◌, true, ap, sym, subst, true≢false}
use Rattle.std.proofs.lemmas.Bool.{not-false, not-true}
use Rattle.std.specs.BTreeSet.{Updates, contains}
use Rattle.analysis.specs.Returned.{numbers_cmp}
use Rattle.analysis.proofs.Returning.{returned_last, returned_again, no_instance}
use Rattle.analysis.proofs.returned.is_new.Goals as goal

pub returns-in_ok-insert-in-Some : goal.returns-in_ok-insert-in-Some
returns-in_ok-insert-in-Some c ts h =
    let p = c.in-Some.provider.now in
    let olds = c.args.seen.now in (
      λ new. returned_last ts olds c.insert.new.self c.args.value.now p (sym c.in-Some.ensures) h
          (ap (contains numbers_cmp olds) (sym c.numbers.ensures) ∙ not-true _ (sym c.in_ok-insert-in-Some.ensures.added ∙ new))
          (subst (λ k. Updates numbers_cmp olds c.insert.new.self k true) c.numbers.ensures c.in_ok-insert-in-Some.ensures.updates),
      λ had us. returned_again ts us olds c.args.value.now p (sym c.in-Some.ensures) h
          (ap (contains numbers_cmp olds) (sym c.numbers.ensures) ∙ not-false _ (sym c.in_ok-insert-in-Some.ensures.added ∙ had)),
    )

pub returns-in-None : goal.returns-in-None
returns-in-None c ts h = (λ no. absurd (true≢false (sym no)), λ _ us. no_instance ts us c.args.value.now (sym c.in-None.ensures))

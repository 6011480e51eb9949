use Rattle.std.proofs.Common.{◌≡◌, ◌∙◌, ap, map, subst, IfOk}
use Rattle.std.specs.List.{AllZip}
use Rattle.depsets.specs.Listed.{walked}
use Rattle.claims.specs.Buckets.{no_members, put_all}
use Rattle.claims.specs.Leaders.{leaders}
use Rattle.claims.specs.Sets.{IsSetOf}
use Rattle.claims.specs.Tellings.{tellings_from}
use Rattle.claims.proofs.TellingLemmas.{tellings_found}
use Rattle.claims.proofs.told.told_by_sets.Goals as goal

pub returns : goal.returns
returns c =
    let os = c.args.owned.now in
    let led = c.requires.led in
    let are =
    subst (λ ls. AllZip IsSetOf (put_all ls (map no_members os) 0 os) c.in_ok-sets.sets.items) led
    (subst (λ bs. AllZip IsSetOf bs c.in_ok-sets.sets.items) (c.deref.ensures.value ∙ c.in_ok-buckets.ensures) c.in_ok-sets.ensures) in
    subst (λ ts. IfOk c.tellings.result (λ v. v.items ≡ ts))
    (ap (λ ls. tellings_from ls c.deref-2.result.now 0 os) led
    ∙ ap (λ ss. tellings_from (leaders walked os) ss 0 os) c.deref-2.ensures.value
    ∙ tellings_found walked os c.in_ok-sets.sets.items are) c.tellings.ensures

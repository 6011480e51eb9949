use Rattle.std.proofs.Common.{◌∙◌, map, subst, IfOk}
use Rattle.std.proofs.lemmas.Result.{IfOk-weaker}
use Rattle.depsets.specs.Listed.{walked}
use Rattle.claims.specs.Buckets.{no_members, put_all}
use Rattle.claims.specs.Leaders.{leaders}
use Rattle.claims.specs.Sets.{AreSetsOf}
use Rattle.claims.proofs.SharingLemmas.{shared_law}
use Rattle.claims.proofs.told.found_sets.Goals as goal

pub returns : goal.returns
returns c =
    let os = c.args.owned.now in
    IfOk-weaker c.found.result (λ v. AreSetsOf (put_all (leaders walked os) (map no_members os) 0 os) v.items) _
    (λ v. shared_law walked os v.items)
    (subst (λ ls. IfOk c.found.result (λ v. AreSetsOf (put_all ls (map no_members os) 0 os) v.items)) c.requires.led
    (subst (λ bs. IfOk c.found.result (λ v. AreSetsOf bs v.items)) (c.deref.ensures.value ∙ c.in_ok-buckets.ensures) c.found.ensures))

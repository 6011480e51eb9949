use Rattle.std.proofs.Common.{◌≡◌, arith, sym, subst, length, map}
use Rattle.std.proofs.lemmas.Result.{IfOk-weaker}
use Rattle.components.specs.Components.{AreComponents}
use Rattle.components.specs.Search.{IsResting, IsBlank, number_of}
use Rattle.components.proofs.Resting.{blank_rests, rests_components}
use Rattle.components.proofs.found.numbers_of.Goals as goal

pub loop-n-init : goal.loop-n-init
loop-n-init c = record { rests = blank_rests c.args.deps.now c.in_ok-search.search (subst (λ n. IsBlank n c.in_ok-search.search) c.len.ensures c.in_ok-search.ensures) }

pub returns : goal.returns
returns c =
    let all : c.loop-n.n ≡ length c.args.deps.now = omega (arith, c.loop-n-test.false, c.len-n-end.ensures, c.loop-n.auto.n-end) in
    let rests = subst (λ n. IsResting c.args.deps.now n c.loop-n.search) all c.loop-n.invariant.rests in
    IfOk-weaker c.numbers.result (λ v. v.items ≡ map number_of c.loop-n.search.places) (λ v. AreComponents c.args.deps.now v.items) (λ v is. subst (AreComponents c.args.deps.now) (sym is) (rests_components c.args.deps.now c.loop-n.search rests)) c.numbers.ensures

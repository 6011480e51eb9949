use Rattle.std.proofs.Common.{◌≡◌, ◌∙◌, ap, sym, subst, arith}
use Rattle.std.proofs.lemmas.Result.{IfOk-weaker}
use Rattle.claims.specs.Sets.{IsSetOf, set_from}
use Rattle.claims.proofs.SetLemmas.{set_is}
use Rattle.claims.proofs.sets.set_of.Goals as goal

pub returns : goal.returns
returns c =
    IfOk-weaker c.set_from.result (λ s. s ≡ set_from c.as_slice.result.now) (IsSetOf c.args.members.now)
    (λ s found. subst (IsSetOf c.args.members.now) (sym (found ∙ ap set_from c.as_slice.ensures))
    (set_is c.args.members.now _ (omega (arith, c.if-members-lt2.false)) c.in_ok-sorted.ensures)) c.set_from.ensures

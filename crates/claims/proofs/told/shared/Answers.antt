use Rattle.std.proofs.lemmas.Result.{IfOk-weaker}
use Rattle.depsets.specs.Listed.{walked, flat}
use Rattle.claims.specs.Sharing.{AreShared}
use Rattle.claims.proofs.Agreed.{agree_plain, shared_agree}
use Rattle.claims.proofs.told.shared.Goals as goal

pub returns-clause-plain : goal.returns-clause-plain
returns-clause-plain c =
    let os = c.args.owned.now in
    IfOk-weaker c.sets_by.result (λ v. AreShared walked os v.items) _
    (λ v found coherent. shared_agree walked flat os (agree_plain os coherent) v.items found) c.sets_by.ensures

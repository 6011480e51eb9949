use Rattle.std.proofs.Common.{subst, List, ℕ}
use Rattle.std.proofs.lemmas.Result.{IfOk-weaker}
use Rattle.packing.specs.Folders.{HasNoNames}
use Rattle.packing.specs.Packs.{Holds}
use Rattle.packing.specs.Walks.{CoversFrom}
use Rattle.packing.proofs.WalkLemmas.{covers-named, shut-names, unread-folder}
use Rattle.packing.proofs.walk.Walk.visit.Goals as goal

pub returns-in_ok-reason-in-Err-clause-grows : goal.returns-in_ok-reason-in-Err-clause-grows
returns-in_ok-reason-in-Err-clause-grows g c =
    let at = g.F.Folder.at c.args.folder.now in
    let told : HasNoNames (at c.args.from) c.in-Err.unread = subst (λ (p : List ℕ). HasNoNames (at p) c.in-Err.unread) c.as_str.ensures
    (c.in-Err.ensures.unread c.in_ok-reason-in-Err.ensures.memory) in
    let holds : Holds at c.args.from c.in_ok-reason-in-Err.reason = c.in_ok-reason-in-Err.ensures.holds at c.args.from (unread-folder (at c.args.from) c.args.from c.in-Err.unread c.requires told) in
    IfOk-weaker c.leave.result _ _ (λ r h. h at holds) c.leave.ensures.grows

pub returns-in_ok-reason-in-Err-clause-covers : goal.returns-in_ok-reason-in-Err-clause-covers
returns-in_ok-reason-in-Err-clause-covers g c =
    let at = g.F.Folder.at c.args.folder.now in
    let told : HasNoNames (at c.args.from) c.in-Err.unread = subst (λ (p : List ℕ). HasNoNames (at p) c.in-Err.unread) c.as_str.ensures
    (c.in-Err.ensures.unread c.in_ok-reason-in-Err.ensures.memory) in
    IfOk-weaker c.leave.result _ (λ _. CoversFrom at c.leave.new.self c.args.from) (λ r h. covers-named at c.leave.new.self c.args.from c.in_ok-reason-in-Err.reason h c.in_ok-reason-in-Err.ensures.itself
    (λ names others there. shut-names (at c.args.from) c.in-Err.unread names others told there)) c.leave.ensures.named

pub returns-in_ok-reason-in-Err-clause-only : goal.returns-in_ok-reason-in-Err-clause-only
returns-in_ok-reason-in-Err-clause-only g c =
    let at = g.F.Folder.at c.args.folder.now in
    IfOk-weaker c.leave.result _ _ (λ r h comes. h at comes) c.leave.ensures.only

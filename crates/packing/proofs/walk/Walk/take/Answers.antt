use Rattle.std.proofs.Common.{◌≡◌, ◌∙◌, [], false, subst, sym}
use Rattle.std.proofs.lemmas.Result.{IfOk-weaker}
use Rattle.std.specs.Prelude.{Contains, List, ℕ}
use Rattle.packing.specs.Folders.{At, Comes, HasKind, HasNoKind, IsFolder, IsListed, Reaches, below, is_hidden, passes_over}
use Rattle.packing.specs.declared.folders.Kind.{Kind}
use Rattle.packing.specs.declared.folders.Kind.TheVariants as kind
use Rattle.packing.specs.declared.leaving.Reason.TheVariants as reason
use Rattle.packing.specs.Walks.{CoversFrom, CoversName, Stays}
use Rattle.packing.proofs.WalkLemmas.{comes-by, covers-found, covers-hidden, covers-link, covers-named, kind-folder, reached-file, seen-name, seen-special, seen-unread, shut-kind, shut-special, unread-kind}
use Rattle.packing.proofs.walk.Walk.take.Goals as goal

pub returns-in-Ok-File-clause-covers : goal.returns-in-Ok-File-clause-covers
returns-in-Ok-File-clause-covers g c =
    let at = g.F.Folder.at c.args.folder.now in
    let named : c.as_str.result.now ≡ below c.args.from.now c.args.name.now = c.as_str.ensures ∙ c.in_ok-path.ensures in
    let told : HasKind (at c.as_str.result.now) kind.File = subst (λ (k : Kind). HasKind (at c.as_str.result.now) k) c.in-Ok-File.field-0-is c.in-Ok-File.ensures.kind in
    let there : HasKind (at (below c.args.from.now c.args.name.now)) kind.File = subst (λ (p : List ℕ). HasKind (at p) kind.File) named told in
    IfOk-weaker c.find.result _ _ (λ r h kept seen. covers-found at c.find.new.self (below c.args.from.now c.args.name.now) there
    (subst (λ (p : List ℕ). Contains c.find.new.self.files.keys p) c.in_ok-path.ensures h)) c.find.ensures.has

pub returns-in_ok-reason-in-Err-clause-grows : goal.returns-in_ok-reason-in-Err-clause-grows
returns-in_ok-reason-in-Err-clause-grows g c =
    let at = g.F.Folder.at c.args.folder.now in
    let told : HasNoKind (at c.in_ok-path.path) c.in-Err.unread = subst (λ (p : List ℕ). HasNoKind (at p) c.in-Err.unread) c.as_str.ensures
    (c.in-Err.ensures.unread c.in_ok-reason-in-Err.ensures.memory) in
    IfOk-weaker c.leave-in-Err.result _ _ (λ r h. h at (c.in_ok-reason-in-Err.ensures.holds at c.in_ok-path.path (unread-kind (at c.in_ok-path.path) c.in_ok-path.path c.in-Err.unread told))) c.leave-in-Err.ensures.grows

pub returns-in-Ok-File-clause-only : goal.returns-in-Ok-File-clause-only
returns-in-Ok-File-clause-only g c =
    let at = g.F.Folder.at c.args.folder.now in
    let named : c.as_str.result.now ≡ below c.args.from.now c.args.name.now = c.as_str.ensures ∙ c.in_ok-path.ensures in
    let told : HasKind (at c.as_str.result.now) kind.File = subst (λ (k : Kind). HasKind (at c.as_str.result.now) k) c.in-Ok-File.field-0-is c.in-Ok-File.ensures.kind in
    let there : HasKind (at (below c.args.from.now c.args.name.now)) kind.File = subst (λ (p : List ℕ). HasKind (at p) kind.File) named told in
    let kept : passes_over c.args.from.now c.args.name.now ≡ false = sym c.passes_over.ensures ∙ c.if-passes_over.false in
    IfOk-weaker c.find.result _ _ (λ r h listed k. h at (subst (λ (p : List ℕ). Reaches at [] p) (sym c.in_ok-path.ensures)
    (reached-file at c.args.from.now c.args.name.now there kept k listed)) k) c.find.ensures.only

pub returns-in-Ok-Special-clause-only : goal.returns-in-Ok-Special-clause-only
returns-in-Ok-Special-clause-only g c =
    let at = g.F.Folder.at c.args.folder.now in
    let kept : passes_over c.args.from.now c.args.name.now ≡ false = sym c.passes_over.ensures ∙ c.if-passes_over.false in
    let told : HasKind (at c.as_str.result.now) kind.Special = subst (λ (k : Kind). HasKind (at c.as_str.result.now) k) c.in-Ok-Special.field-0-is c.in-Ok-Special.ensures.kind in
    let there : HasKind (at (below c.args.from.now c.args.name.now)) kind.Special = subst (λ (p : List ℕ). HasKind (at p) kind.Special) (c.as_str.ensures ∙ c.in_ok-path.ensures) told in
    IfOk-weaker c.leave.result (λ _. (a : At) → Comes a c.in_ok-path.path → Stays a c.args.self.now c.leave.new.self)
    (λ _. IsListed at c.args.from.now c.args.name.now → Stays at c.args.self.now c.leave.new.self) (λ r h listed. h at (subst (Comes at) (sym c.in_ok-path.ensures)
    (comes-by at c.args.from.now c.args.name.now listed kept (seen-special (at (below c.args.from.now c.args.name.now)) c.args.name.now there))))
    c.leave.ensures.only

pub returns-in_ok-reason-in-Err-clause-only : goal.returns-in_ok-reason-in-Err-clause-only
returns-in_ok-reason-in-Err-clause-only g c =
    let at = g.F.Folder.at c.args.folder.now in
    let kept : passes_over c.args.from.now c.args.name.now ≡ false = sym c.passes_over.ensures ∙ c.if-passes_over.false in
    let told : HasNoKind (at (below c.args.from.now c.args.name.now)) c.in-Err.unread = subst (λ (p : List ℕ). HasNoKind (at p) c.in-Err.unread) (c.as_str.ensures ∙ c.in_ok-path.ensures)
    (c.in-Err.ensures.unread c.in_ok-reason-in-Err.ensures.memory) in
    IfOk-weaker c.leave-in-Err.result (λ _. (a : At) → Comes a c.in_ok-path.path → Stays a c.args.self.now c.leave-in-Err.new.self)
    (λ _. IsListed at c.args.from.now c.args.name.now → Stays at c.args.self.now c.leave-in-Err.new.self) (λ r h listed. h at (subst (Comes at) (sym c.in_ok-path.ensures)
    (comes-by at c.args.from.now c.args.name.now listed kept (seen-unread (at (below c.args.from.now c.args.name.now)) c.args.name.now c.in-Err.unread told))))
    c.leave-in-Err.ensures.only

pub returns-in_ok-reason-in-Err-clause-covers : goal.returns-in_ok-reason-in-Err-clause-covers
returns-in_ok-reason-in-Err-clause-covers g c =
    let at = g.F.Folder.at c.args.folder.now in
    let told : HasNoKind (at c.in_ok-path.path) c.in-Err.unread = subst (λ (p : List ℕ). HasNoKind (at p) c.in-Err.unread) c.as_str.ensures
    (c.in-Err.ensures.unread c.in_ok-reason-in-Err.ensures.memory) in
    IfOk-weaker c.leave-in-Err.result _ (λ _. CoversName at c.leave-in-Err.new.self c.args.from.now c.args.name.now) (λ r h kept seen. subst (λ (p : List ℕ). CoversFrom at c.leave-in-Err.new.self p) c.in_ok-path.ensures
    (covers-named at c.leave-in-Err.new.self c.in_ok-path.path c.in_ok-reason-in-Err.reason h c.in_ok-reason-in-Err.ensures.itself
    (λ names others there. shut-kind (at c.in_ok-path.path) c.in-Err.unread names others told there))) c.leave-in-Err.ensures.named

pub returns-in-Ok-Special-clause-covers : goal.returns-in-Ok-Special-clause-covers
returns-in-Ok-Special-clause-covers g c =
    let at = g.F.Folder.at c.args.folder.now in
    let told : HasKind (at c.as_str.result.now) kind.Special = subst (λ (k : Kind). HasKind (at c.as_str.result.now) k) c.in-Ok-Special.field-0-is c.in-Ok-Special.ensures.kind in
    let there : HasKind (at c.in_ok-path.path) kind.Special = subst (λ (p : List ℕ). HasKind (at p) kind.Special) c.as_str.ensures told in
    IfOk-weaker c.leave.result _ (λ _. CoversName at c.leave.new.self c.args.from.now c.args.name.now) (λ r h kept seen. subst (λ (p : List ℕ). CoversFrom at c.leave.new.self p) c.in_ok-path.ensures
    (covers-named at c.leave.new.self c.in_ok-path.path reason.Special h (λ e. cc)
    (λ names others is. shut-special (at c.in_ok-path.path) names others there is))) c.leave.ensures.named

pub returns-else-is_hidden-clause-only : goal.returns-else-is_hidden-clause-only
returns-else-is_hidden-clause-only g c =
    let at = g.F.Folder.at c.args.folder.now in
    let kept : passes_over c.args.from.now c.args.name.now ≡ false = sym c.passes_over.ensures ∙ c.if-passes_over.false in
    let shown : is_hidden c.args.name.now ≡ false = sym c.is_hidden.ensures ∙ c.if-is_hidden.false in
    IfOk-weaker c.wait.result _ _ (λ r h listed. h at (subst (Comes at) (sym c.in_ok-path.ensures)
    (comes-by at c.args.from.now c.args.name.now listed kept (seen-name (at (below c.args.from.now c.args.name.now)) c.args.name.now shown)))) c.wait.ensures.only

pub returns-else-is_hidden-clause-grows : goal.returns-else-is_hidden-clause-grows
returns-else-is_hidden-clause-grows g c =
    let at = g.F.Folder.at c.args.folder.now in
    let told : HasKind (at c.as_str.result.now) kind.Folder = subst (λ (k : Kind). HasKind (at c.as_str.result.now) k) c.in-Ok-Folder.field-0-is c.in-Ok-Folder.ensures.kind in
    let folds : IsFolder (at c.in_ok-path.path) = subst (λ (p : List ℕ). IsFolder (at p)) c.as_str.ensures (kind-folder (at c.as_str.result.now) told) in
    IfOk-weaker c.wait.result _ _ (λ r h. h at folds) c.wait.ensures.grows

pub returns-in-Ok-Link-clause-covers : goal.returns-in-Ok-Link-clause-covers
returns-in-Ok-Link-clause-covers g c kept seen =
    let at = g.F.Folder.at c.args.folder.now in
    let told : HasKind (at c.as_str.result.now) kind.Link = subst (λ (k : Kind). HasKind (at c.as_str.result.now) k) c.in-Ok-Link.field-0-is c.in-Ok-Link.ensures.kind in
    covers-link at c.args.self.now (below c.args.from.now c.args.name.now)
    (subst (λ (p : List ℕ). HasKind (at p) kind.Link) (c.as_str.ensures ∙ c.in_ok-path.ensures) told)

pub returns-then-is_hidden-clause-covers : goal.returns-then-is_hidden-clause-covers
returns-then-is_hidden-clause-covers g c =
    let at = g.F.Folder.at c.args.folder.now in
    let told : HasKind (at c.as_str.result.now) kind.Folder = subst (λ (k : Kind). HasKind (at c.as_str.result.now) k) c.in-Ok-Folder.field-0-is c.in-Ok-Folder.ensures.kind in
    covers-hidden at c.args.self.now c.args.from.now c.args.name.now
    (subst (λ (p : List ℕ). HasKind (at p) kind.Folder) (c.as_str.ensures ∙ c.in_ok-path.ensures) told)
    (sym c.is_hidden.ensures ∙ c.if-is_hidden.true)

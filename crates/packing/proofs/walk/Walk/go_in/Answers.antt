use Rattle.std.proofs.Common.{◌∙◌, List, subst, sym, true≢false, ℕ}
use Rattle.std.specs.Prelude.{Contains}
use Rattle.packing.specs.Folders.{HasOthers, IsListed}
use Rattle.packing.specs.Walks.{CoversName}
use Rattle.packing.proofs.WalkLemmas.{covers-names, grows-then, listed-by, told-more}
use Rattle.packing.proofs.walk.Walk.go_in.Goals as goal

pub returns-in_ok-leave-clause-grows : goal.returns-in_ok-leave-clause-grows
returns-in_ok-leave-clause-grows g c =
    let at = g.F.Folder.at c.args.folder.now in
    let others : HasOthers (at c.args.from) = told-more (at c.args.from) c.args.listing.names.items c.args.listing.others c.requires c.if-listing.true in
    grows-then at c.args.self.now c.take_each.new.self c.leave.new.self c.in_ok-take_each.ensures.grows (c.in_ok-leave.ensures.grows at others)

pub returns-in_ok-leave-clause-covers : goal.returns-in_ok-leave-clause-covers
returns-in_ok-leave-clause-covers g c =
    let at = g.F.Folder.at c.args.folder.now in
    let others : HasOthers (at c.args.from) = told-more (at c.args.from) c.args.listing.names.items c.args.listing.others c.requires c.if-listing.true in
    covers-names at c.leave.new.self c.args.from c.args.listing.names.items c.args.listing.others c.requires (λ is. c.in_ok-leave.ensures.named)
    (λ name listed kept seen path r. (c.in_ok-leave.ensures.grows at others).covered path
    (subst (λ (p : List ℕ). CoversName at c.take_each.new.self p name) c.as_str.ensures
    (c.in_ok-take_each.ensures.covers name (subst (λ (ns : List (List ℕ)). Contains ns name) (sym c.deref.ensures.value) listed)) kept seen path r))

pub returns-in_ok-leave-clause-only : goal.returns-in_ok-leave-clause-only
returns-in_ok-leave-clause-only g c comes k within =
    let at = g.F.Folder.at c.args.folder.now in
    c.in_ok-leave.ensures.only at comes k (c.in_ok-take_each.ensures.only (λ name listed. subst (λ (p : List ℕ). IsListed at p name) (sym c.as_str.ensures)
    (listed-by at c.args.from c.args.listing.names.items c.args.listing.others name k comes c.requires (subst (λ (ns : List (List ℕ)). Contains ns name) c.deref.ensures.value listed))) k within)

pub returns-else-listing-clause-covers : goal.returns-else-listing-clause-covers
returns-else-listing-clause-covers g c =
    let at = g.F.Folder.at c.args.folder.now in
    covers-names at c.take_each.new.self c.args.from c.args.listing.names.items c.args.listing.others c.requires (λ is. absurd (true≢false (sym is ∙ c.if-listing.false)))
    (λ name listed. subst (λ (p : List ℕ). CoversName at c.take_each.new.self p name) c.as_str.ensures
    (c.in_ok-take_each.ensures.covers name (subst (λ (ns : List (List ℕ)). Contains ns name) (sym c.deref.ensures.value) listed)))

pub returns-else-listing-clause-only : goal.returns-else-listing-clause-only
returns-else-listing-clause-only g c comes k within =
    let at = g.F.Folder.at c.args.folder.now in
    c.in_ok-take_each.ensures.only (λ name listed. subst (λ (p : List ℕ). IsListed at p name) (sym c.as_str.ensures)
    (listed-by at c.args.from c.args.listing.names.items c.args.listing.others name k comes c.requires (subst (λ (ns : List (List ℕ)). Contains ns name) c.deref.ensures.value listed))) k within

use Rattle.std.proofs.Common.{inl, inr, refl}
use Rattle.packing.specs.declared.walk.Walk.{Walk}
use Rattle.packing.proofs.WalkLemmas.{folder-taken, taken-covered, within-taken}
use Rattle.packing.proofs.walk.walk_through.Goals as goal

pub visit-requires : goal.visit-requires
visit-requires g c =
    let rest : Walk = record { waiting = c.pop.new.self; files = c.loop.walk.files; left = c.loop.walk.left } in
    (folder-taken (g.F.Folder.at c.args.folder.now) c.loop.walk rest c.in-Some.from c.in-Some.ensures.items c.loop.invariant.folders).1

pub loop-preserved : goal.loop-preserved
loop-preserved g c =
    let at = g.F.Folder.at c.args.folder.now in
    let rest : Walk = record { waiting = c.pop.new.self; files = c.loop.walk.files; left = c.loop.walk.left } in record {
      root = c.loop.invariant.root;
      covers = λ path r. elim (taken-covered at c.loop.walk rest c.in-Some.from path refl refl c.in-Some.ensures.items (c.loop.invariant.covers path r)) [
        | inl still ↦ c.in_ok-visit.ensures.grows.covered path still
        | inr this ↦ c.in_ok-visit.ensures.covers path this
      ];
      folders = c.in_ok-visit.ensures.grows.folders (folder-taken at c.loop.walk rest c.in-Some.from c.in-Some.ensures.items c.loop.invariant.folders).0;
      only = λ k.
          let taken = within-taken at c.loop.walk rest c.in-Some.from refl refl c.in-Some.ensures.items (c.loop.invariant.only k) in
          c.in_ok-visit.ensures.only taken.1 k taken.0;
      files = c.in_ok-visit.ensures.grows.files c.loop.invariant.files;
      reasons = c.in_ok-visit.ensures.grows.reasons c.loop.invariant.reasons;
    }

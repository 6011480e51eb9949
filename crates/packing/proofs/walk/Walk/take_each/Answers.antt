use Rattle.std.proofs.Common.{◌≡◌, ◌∙◌, ◌≤◌, List, ℕ, arith, length, subst, sym, take}
use Rattle.std.proofs.lemmas.List.{take_all}
use Rattle.std.proofs.lemmas.List.Elements.{Contains-get_or}
use Rattle.packing.specs.Folders.{IsListed}
use Rattle.packing.specs.Walks.{CoversName}
use Rattle.packing.proofs.WalkLemmas.{covers-more, grows-then}
use Rattle.packing.proofs.walk.Walk.take_each.Goals as goal

pub loop-name-preserved : goal.loop-name-preserved
loop-name-preserved g c =
    let at = g.F.Folder.at c.args.folder.now in record {
      grows = grows-then at c.args.self.now c.loop-name.self c.take.new.self c.loop-name.invariant.grows c.in_ok-take.ensures.grows;
      covers =
          covers-more at c.loop-name.self c.take.new.self c.args.from.now c.args.names.now c.loop-name.name-index _ c.loop-name-test.true c.in_ok-take.ensures.grows
          c.loop-name.invariant.covers (subst (λ (n : List ℕ). CoversName at c.take.new.self c.args.from.now n) (c.as_str.ensures ∙ c.name-item.is) c.in_ok-take.ensures.covers);
      only = λ each k within. c.in_ok-take.ensures.only
          (subst (λ (n : List ℕ). IsListed at c.args.from.now n) (sym (c.as_str.ensures ∙ c.name-item.is))
          (each _ (Contains-get_or c.args.names.now c.loop-name.name-index _ c.loop-name-test.true)))
          k (c.loop-name.invariant.only each k within);
    }

pub returns-clause-covers : goal.returns-clause-covers
returns-clause-covers g c name listed =
    let past : length c.args.names.now ≤ c.loop-name.name-index = omega (arith, c.loop-name-test.false) in
    let all : take c.loop-name.name-index c.args.names.now ≡ c.args.names.now = take_all c.loop-name.name-index c.args.names.now past in
    c.loop-name.invariant.covers name (rw all listed)

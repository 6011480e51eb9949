use Rattle.std.proofs.Common.{◌≡◌, ◌∙◌, [], ap, sym, subst, drop, length, arith}
use Rattle.std.proofs.lemmas.List.{nil_from_length}
use Rattle.std.proofs.Math.Seq.{drop-length}
use Rattle.workspace.specs.Workspaces.{paths_of}
use Rattle.packages.specs.Built.{AreBuiltFrom}
use Rattle.packages.proofs.Files.{at_first, at_last}
use Rattle.packages.proofs.InOrder.{all_built_from}
use Rattle.packages.proofs.building.put_all.Goals as goal

pub loop-one-init : goal.loop-one-init
loop-one-init c =
    let v = c.args.files.now in
    record {
      built = subst (λ os. AreBuiltFrom v.files v.limit 0 os) (sym c.into_iter-one-iterator.ensures.into_iter_gives.0) (all_built_from v.files v.limit c.args.built.items c.requires);
      so_far =
          at_first v.files v.limit c.paths-paths.result.now c.faults-rest.result.now c.modules.result.now c.new.result.entries c.new-2.result.items
          c.paths-paths.ensures.value c.modules.ensures c.faults-rest.ensures c.new.ensures.empty c.new-2.ensures.items;
    }

pub returns : goal.returns
returns c =
    let v = c.args.files.now in
    let place = c.loop-one.place in
    let left = c.loop-one.one-iterator.rest in
    let none = c.in-None.ensures.steps.0 in
    let same = left.ok in
    let gone = nil_from_length left.items (omega (arith, none, same)) in
    let last : place ≡ length (paths_of v.files) = subst (λ os. AreBuiltFrom v.files v.limit place os) gone c.loop-one.invariant.built in
    let behind : drop place c.paths-paths.result.now ≡ [] =
    ap (drop place) c.paths-paths.ensures.value ∙ ap (λ n. drop n (paths_of v.files)) last ∙ drop-length (paths_of v.files) in
    at_last v.files v.limit (drop place c.paths-paths.result.now) c.loop-one.rest.now c.loop-one.declared.packages.entries c.loop-one.declared.faults.items behind c.loop-one.invariant.so_far

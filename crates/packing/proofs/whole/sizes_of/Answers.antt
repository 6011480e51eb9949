use Rattle.std.proofs.lemmas.List.Elements.{All-rest}
use Rattle.packing.specs.Folders.{IsFound}
use Rattle.packing.proofs.whole.sizes_of.Goals as goal

pub loop-path-preserved : goal.loop-path-preserved
loop-path-preserved g c =
    let at = g.F.Folder.at c.args.folder.now in record {
      goes = tt;
      ends = tt;
      found = All-rest (IsFound at) c.in-Some.path.now c.next.new.self c.loop-path.path-iterator c.in-Some.ensures.steps c.loop-path.invariant.found;
      each = c.in_ok-push_size.ensures c.loop-path.invariant.each;
    }

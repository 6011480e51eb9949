use Rattle.packing.proofs.WalkLemmas.{begun}
use Rattle.packing.proofs.walk.Walk.begin.Goals as goal

pub returns : goal.returns
returns g c =
    begun (g.F.Folder.at c.args.folder.now) c.args.root.names.items c.args.root.others c.new-walk.result c.go_in.new.self c.in_ok-new.field-0
    c.new-walk.ensures.files c.new-walk.ensures.waiting c.new-walk.ensures.left c.in_ok-new.ensures c.requires
    c.in_ok-go_in.ensures.grows c.in_ok-go_in.ensures.covers c.in_ok-go_in.ensures.only

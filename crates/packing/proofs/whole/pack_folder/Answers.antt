use Rattle.packing.proofs.WritingLemmas.{packs-closed}
use Rattle.packing.proofs.whole.pack_folder.Goals as goal

pub returns-in-Ok-of_files-clause-packs : goal.returns-in-Ok-of_files-clause-packs
returns-in-Ok-of_files-clause-packs g c =
    packs-closed (g.F.Folder.at c.args.folder.now) c.in-Ok-walk_through.field-0 c.in-Ok-of_files.writing c.closed.result c.in-Ok-walk_through.ensures
    c.in-Ok-of_files.ensures.written c.closed.ensures.input c.closed.ensures.left c.closed.ensures.ordered c.closed.ensures.counted

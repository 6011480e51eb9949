use Rattle.input_tests.proofs.SingleLemmas.{packs-single, root-read, spells-single}
use Rattle.input_tests.proofs.singles.pack_single.Goals as goal

pub returns-clause-input : goal.returns-clause-input
returns-clause-input g c = packs-single c.args.folder.now.name.now c.args.folder.now.bytes.now c.pack.result c.pack.ensures.packs c.pack.ensures.strict

pub returns-clause-spells : goal.returns-clause-spells
returns-clause-spells g c = spells-single c.args.folder.now.name.now c.args.folder.now.bytes.now c.pack.result c.pack.ensures.packs c.pack.ensures.strict

pub returns-clause-read : goal.returns-clause-read
returns-clause-read g c u is = root-read c.args.folder.now.name.now c.args.folder.now.bytes.now c.pack.result u c.pack.ensures.refuses is

use Rattle.loader.proofs.Loading.{modules_are}
use Rattle.loader.proofs.loaded.evaluated.Goals as goal

pub returns : goal.returns
returns c =
    let e = c.args.evaluator.now in
    modules_are e.sources e.limit c.args.workspace.now c.load_all.result c.requires.files c.load_all.ensures.paths
    c.load_all.ensures.ascending c.load_all.ensures.modules

use Rattle.analysis.specs.Keyed.{Key}
use Rattle.analysis.specs.Seen.{dependencies_seen}
use Rattle.analysis.proofs.Finding.{got}
use Rattle.analysis.proofs.checks.Found.get.Goals as goal

pub returns : goal.returns
returns c =
    let k : Key = c.label_key.result in
    got c.get.result c.args.self.now.by_label k (dependencies_seen c.args.self.now.dependencies.now) c.args.label.now c.get.ensures.value c.requires
    c.label_key.ensures.1 c.label_key.ensures.0

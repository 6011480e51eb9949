use Rattle.std.proofs.Common.{◌∙◌, ap}
use Rattle.std.specs.Prelude.{is_some}
use Rattle.evaluation.proofs.Bound.{handed_on, seen_some}
use Rattle.evaluation.proofs.handed.Module.binds.Goals as goal

pub returns : goal.returns
returns c =
    c.is_some.ensures ∙ seen_some c.global.result ∙ ap is_some c.global.ensures
    ∙ handed_on c.args.name.now c.args.self.now

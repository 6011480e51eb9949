use Rattle.std.proofs.Common.{◌∙◌, ap}
use Rattle.std.specs.Prelude.{is_some}
use Rattle.rule_calls.proofs.Named.{copied_some, has_is}
use Rattle.rule_calls.proofs.by_name.PackageTargets.has.Goals as goal

pub returns : goal.returns
returns c = c.is_some.ensures ∙ copied_some c.get.result ∙ ap is_some c.get.ensures ∙ has_is c.args.label.now c.args.self.now.targets

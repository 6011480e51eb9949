use Rattle.std.proofs.Common.{◌∙◌, ap}
use Rattle.rule_calls.specs.Packages.{Declared}
use Rattle.workspace.specs.Labels.{LabelParts}
use Rattle.rule_calls.proofs.Sharing.{named_label}
use Rattle.rule_calls.proofs.by_name.PackageTargets.named.Goals as goal

pub returns-in-Some : goal.returns-in-Some
returns-in-Some c =
    let p = c.self.inside.«package» in let es = c.self.inside.by_name.entries in let n = c.args.name.now in
    named_label p n es c.in-Some.target.now c.self.invariant c.in-Some.ensures.value
    ∙ ap (λ (d : Declared). let l : LabelParts = record { «package» = d.«package»; name = n } in l) c.self.view_is

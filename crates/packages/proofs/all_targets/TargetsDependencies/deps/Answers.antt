use Rattle.std.proofs.Common.{◌∙◌, ap, sym}
use Rattle.targets.specs.Resolving.{named_dependencies}
use Rattle.workspace.specs.Labels.{same_label}
use Rattle.packages.proofs.Names.{dependencies_once, none_needed, none_twice}
use Rattle.packages.proofs.all_targets.TargetsDependencies.deps.Goals as goal

pub returns-in-Undeclared : goal.returns-in-Undeclared
returns-in-Undeclared c =
    let v = c.args.self.now in
    record {
      value = sym (none_needed v.files v.limit c.args.label.now c.find.result c.in-Undeclared.is) ∙ ap named_dependencies c.find.ensures.named;
      once = none_twice same_label;
    }

pub returns-in-Target-clause-once : goal.returns-in-Target-clause-once
returns-in-Target-clause-once c =
    dependencies_once c.in-Target.field-0.now c.labels.result.now (c.labels.ensures ∙ c.in-Target.ensures.dependencies)

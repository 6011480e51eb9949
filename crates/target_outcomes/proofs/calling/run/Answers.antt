use Rattle.std.proofs.Common.{◌∙◌, ap, refl}
use Rattle.meaning.specs.StatementCode.{code_of}
use Rattle.evaluation.specs.Workspaces.{linked_files}
use Rattle.targets.specs.declared.attributes.Rule.{Rule}
use Rattle.loader.specs.Files.{loads}
use Rattle.analysis.specs.Seen.{dependencies_seen}
use Rattle.target_outcomes.proofs.After.{implements}
use Rattle.target_outcomes.proofs.calling.run.Goals as goal

pub returns : goal.returns
returns g c =
    let F = c.args.files.now in
    let p = c.in_ok-context.context in
    implements F.files F.limit c.args.label.now c.args.target.now (dependencies_seen c.args.dependencies.now)
    c.limit.result c.paths-paths.result.now c.modules-modules.result.now p.label.now p.target.now p.dependencies c.get-function.result.now c.call.result
    (c.modules_are_found_by_path.ensures (loads F.files F.limit))
    c.limit.ensures c.paths-paths.ensures.value c.modules-modules.ensures
    c.in_ok-context.ensures.label c.in_ok-context.ensures.target c.in_ok-context.ensures.dependencies
    (c.get-function.ensures ∙ ap (λ (r : Rule). r.implementation) c.get-rule.ensures)
    (c.call.ensures (linked_files F.files) (c.linked.ensures ∙ ap (λ fs. code_of (linked_files fs)) c.sources-sources.ensures))

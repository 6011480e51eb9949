use Rattle.std.proofs.Common.{◌≡◌, ◌∙◌, ap, Err, IfOk, subst}
use Rattle.answers.specs.Reports.{IsTooMany, Reports}
use Rattle.answers.specs.declared.refused.NoReport.TheVariants.{TooMany}
use Rattle.answers.proofs.Told.{too_many}
use Rattle.answers.proofs.report.report_on_shelf.Goals as goal

pub returns-clause-report : goal.returns-clause-report
returns-clause-report g c =
    let workspace = c.args.workspace.now in
    let labels = c.args.labels.now in
    subst (λ n. IfOk c.report_on_graph.result (Reports workspace labels n)) c.in_ok-targets.ensures.limit
    (c.report_on_graph.ensures.report workspace labels c.count-count.ensures.legal c.in_ok-targets.ensures.files c.in-Ok.ensures.graph)

pub returns-in-Err-clause-many : goal.returns-in-Err-clause-many
returns-in-Err-clause-many g c e =
    let workspace = c.args.workspace.now in
    let labels = c.args.labels.now in
    let v = c.in_ok-targets.targets in
    let too : c.in-Err.refused ≡ TooMany = cc in
    subst (λ n. IsTooMany workspace labels n) c.in_ok-targets.ensures.limit
    (too_many workspace v.files v.limit labels c.in_ok-targets.ensures.files (c.graph_of.ensures.many (c.in-Err.is ∙ ap Err too)))

use Rattle.answers.proofs.report.report_on_graph.Goals as goal

pub returns-clause-report : goal.returns-clause-report
returns-clause-report g c = λ workspace asked legal are is.
    c.in_ok-report.ensures workspace asked legal are is (c.in_ok-found.ensures.outcomes asked is)

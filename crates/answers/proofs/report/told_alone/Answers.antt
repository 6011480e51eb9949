use Rattle.std.proofs.Common.{◌∙◌}
use Rattle.answers.proofs.report.told_alone.Goals as goal

pub returns : goal.returns
returns g c = λ workspace asked legal are is found.
    c.told-report.ensures c.args.targets.files workspace c.args.targets.limit asked (c.deref.ensures.value ∙ c.into_faults-failing.ensures) legal are is found

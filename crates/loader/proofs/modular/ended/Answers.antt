use Rattle.std.proofs.Common.{◌≡◌, IfOk, ap, subst}
use Rattle.targets.specs.declared.declarations.Declarations.{Declarations}
use Rattle.language.specs.declared.whole.Whole.{Whole}
use Rattle.evaluation.specs.Runs.{module_ended}
use Rattle.loader.proofs.modular.ended.Goals as goal

pub returns : goal.returns
returns c =
    let f = c.args.file.now in
    let inner = c.into_inner-state in
    subst (λ m. IfOk c.end_run.result (λ r. r ≡ m))
    (ap (λ (w : Whole Declarations). module_ended f.path.now f.number f.names.now w.state w.work) inner.ensures)
    c.end_run.ensures

use Rattle.std.proofs.Common.{◌≡◌, ap, Err}
use Rattle.workspace.specs.declared.workspace.WorkspaceRefused.TheVariants.{Illegal}
use Rattle.workspace.proofs.WorkspaceLemmas.{refused_by_pair}
use Rattle.workspace.proofs.workspace.Workspace.new.Goals as goal

pub returns-in-Err-clause-illegal : goal.returns-in-Err-clause-illegal
returns-in-Err-clause-illegal c e w =
    let same : c.in-Err.refused ≡ Illegal = cc in
    refused_by_pair c.args.pairs.now c.loop-path.path-index _ c.loop-path-test.true (c.in-Err.ensures.illegal (ap (λ s. Err s) same)) w

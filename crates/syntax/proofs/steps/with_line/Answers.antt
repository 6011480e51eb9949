use Rattle.std.proofs.Common.{◌≡◌, ◌∙◌, ap, sym}
use Rattle.program_tree.specs.ProgramView as view
use Rattle.program_tree.specs.Resolved.{Made, with_line}
use Rattle.syntax.specs.Resolves.{behind_seen, head_seen}
use Rattle.syntax.proofs.ProgramLemmas.{if_ok_then}
use Rattle.syntax.proofs.steps.with_line.Goals as goal

pub returns-in-Elif : goal.returns-in-Elif
returns-in-Elif c =
    let old : Made = behind_seen c.args.behind in
    let inner = view.steps c.args.own.1.steps.items in
    if_ok_then c.with_branch.result
    (λ b. behind_seen b ≡ record { branches = view.branch c.branch-line.result old.branches; other = old.other; steps = old.steps })
    (λ b. behind_seen b ≡ with_line (head_seen c.args.own.0) c.args.line c.args.own.1.slots inner old)
    (λ b e.
    e
    ∙ ap (λ bs. record { branches = bs; other = old.other; steps = old.steps }) (c.branch-line.ensures old.branches)
    ∙ ap (λ h. with_line (head_seen h) c.args.line c.args.own.1.slots inner old) (sym c.in-Elif.is))
    c.with_branch.ensures

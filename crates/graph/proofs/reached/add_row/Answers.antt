use Rattle.std.proofs.Common.{◌≡◌, ◌∙◌, length, ap, sym, subst}
use Rattle.std.proofs.lemmas.Result.{err_from_is_err_and}
use Rattle.workspace.specs.Labels.{same_label}
use Rattle.graph.specs.Same.{same_label-decides, no_label, label_at}
use Rattle.graph.specs.Numbering.{AreNumbers}
use Rattle.graph.proofs.Rows.{many_next, next_row}
use Rattle.graph.proofs.reached.add_row.Goals as goal

pub returns-in_err-number_all-clause-many : goal.returns-in_err-number_all-clause-many
returns-in_err-number_all-clause-many g c =
    let r = c.args.reached.now in
    let turn : c.get.result.now ≡ label_at r.numbers (length r.deps) = c.get.ensures ∙ c.label.ensures ∙ ap (label_at r.numbers) c.len.ensures in
    let p = err_from_is_err_and c.from_residual.result c.from_residual.ensures.1 in
    rw (p.1, p.2) (λ is. many_next same_label same_label-decides no_label (g.S.Dependencies.needs c.args.source.now) c.args.asked.now r.numbers c.number_all.new.self c.deps-needed.result.now r.deps c.requires.numbered c.requires.more c.get.result.now
    turn c.deps-needed.ensures.value c.number_all.ensures.grown c.args.limit (c.in_err-number_all.ensures.many is))

pub returns-clause-numbered : goal.returns-clause-numbered
returns-clause-numbered g c =
    let r = c.args.reached.now in
    let turn : c.get.result.now ≡ label_at r.numbers (length r.deps) = c.get.ensures ∙ c.label.ensures ∙ ap (label_at r.numbers) c.len.ensures in
    next_row same_label same_label-decides no_label (g.S.Dependencies.needs c.args.source.now) c.args.asked.now r.numbers c.number_all.new.self c.deps-needed.result.now r.deps c.requires.numbered c.requires.more c.get.result.now turn c.deps-needed.ensures.value
    c.number_all.ensures.grown c.as_slice.result.now (subst (AreNumbers no_label c.number_all.new.self c.deps-needed.result.now) (sym c.as_slice.ensures.value) c.in_ok-number_all.ensures.numbers) c.deps-needed.ensures.once c.push.new.self c.in_ok-push.ensures

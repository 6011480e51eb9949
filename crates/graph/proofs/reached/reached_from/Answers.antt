use Rattle.std.proofs.lemmas.Result.{err_from_is_err_and}
use Rattle.workspace.specs.Labels.{same_label}
use Rattle.graph.specs.Same.{same_label-decides, no_label}
use Rattle.graph.proofs.Rows.{begins, many_first}
use Rattle.graph.proofs.reached.reached_from.Goals as goal

pub returns-in_err-number_all-clause-many : goal.returns-in_err-number_all-clause-many
returns-in_err-number_all-clause-many g c =
    let p = err_from_is_err_and c.from_residual.result c.from_residual.ensures.1 in
    rw (p.1, p.2) (λ is. many_first same_label same_label-decides no_label (g.S.Dependencies.needs c.args.source.now) c.args.asked.now c.new-numbers.result c.number_all.new.self c.args.limit c.new-numbers.ensures c.number_all.ensures.grown
    (c.in_err-number_all.ensures.many is))

pub nodes-init : goal.nodes-init
nodes-init g c = record {
  numbered = begins same_label same_label-decides no_label (g.S.Dependencies.needs c.args.source.now) c.args.asked.now c.new-numbers.result c.number_all.new.self c.number_all.new.numbers.items c.in_ok-deps.deps c.new-numbers.ensures c.in_ok-deps.ensures
      c.number_all.ensures.grown c.in_ok-number_all.ensures.numbers;
  within = c.in_ok-number_all.ensures.within;
}

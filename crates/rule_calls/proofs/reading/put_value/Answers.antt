use Rattle.std.proofs.lemmas.Result.{err_from_is_err_and}
use Rattle.targets.specs.RuleCalls.{value_for}
use Rattle.rule_calls.proofs.Puts.{put_ok, put_err}
use Rattle.rule_calls.proofs.reading.put_value.Goals as goal

pub returns : goal.returns
returns c =
    put_ok c.args.values.now c.push.new.self (value_for c.args.heap.now c.args.package.now c.args.arguments.now c.args.attribute.now) c.in_ok-value.value
    c.in_ok-value.ensures c.in_ok-push.ensures.ok

pub returns-in_err-value : goal.returns-in_err-value
returns-in_err-value c =
    let same = err_from_is_err_and c.from_residual.result c.from_residual.ensures.1 in
    rw (same.1, same.2) (put_err c.args.values.now (value_for c.args.heap.now c.args.package.now c.args.arguments.now c.args.attribute.now) c.in_err-value.field-0.0 c.in_err-value.ensures)

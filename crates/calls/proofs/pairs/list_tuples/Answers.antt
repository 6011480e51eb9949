use Rattle.std.proofs.Common.{◌≡◌, ap, ◌∙◌, sym, subst}
use Rattle.ticks.specs.Ticking.{FaultOr}
use Rattle.calls.specs.Pairs.{tuples_behind}
use Rattle.calls.proofs.Tuples.{same_grown, grown_on, list_grows, unlisted, list_does}
use Rattle.calls.proofs.pairs.list_tuples.Goals as goal

pub returns-in_err-tuples-clause-grown : goal.returns-in_err-tuples-clause-grown
returns-in_err-tuples-clause-grown c = same_grown c.args.state.now

pub returns-in-Err-clause-list : goal.returns-in-Err-clause-list
returns-in-Err-clause-list c =
    let xs = c.args.keys.now in let ys = c.args.values.now in let s = c.args.state.now in
    unlisted xs ys s c.in-Err.broken (subst (λ l. FaultOr (tuples_behind l xs ys s) c.in-Err.broken) c.in_ok-tuples.ensures c.in-Err.ensures.tuples)

pub returns-clause-grown : goal.returns-clause-grown
returns-clause-grown c =
    grown_on c.args.state.now c.put_tuples.new.state c.new_list.new.state c.put_tuples.ensures.grown
    (list_grows c.put_tuples.new.tuples c.put_tuples.new.state c.new_list.new.state c.new_list.result c.new_list.ensures)

pub returns-clause-list : goal.returns-clause-list
returns-clause-list c =
    let xs = c.args.keys.now in let ys = c.args.values.now in let s = c.args.state.now in
    list_does xs ys c.put_tuples.new.tuples s c.put_tuples.new.state c.new_list.new.state c.new_list.result
    (ap (λ l. tuples_behind l xs ys s) (sym c.in_ok-tuples.ensures) ∙ c.in_default.ensures.tuples) c.new_list.ensures

use Rattle.std.proofs.Common.{◌≡◌, ◌∙◌, sym, ap, ap₂, length, nat_lt, true, false, arith, lt-ltb}
use Rattle.std.specs.List.{list_any}
use Rattle.meaning.specs.Entry.{same_function}
use Rattle.meaning.specs.Machine.{continuing}
use Rattle.frames.specs.Answers.{id_seen}
use Rattle.call_stack.specs.ActiveView.{ids_seen}
use Rattle.call_stack.specs.CallView.{here_at}
use Rattle.call_stack.proofs.CallSteps.{starting_enters}
use Rattle.call_stack.proofs.calling.enter.Goals as goal

pub returns : goal.returns
returns g c codes below =
    let rest = g.W.Operate.rest in
    let ops = g.W.Operate.operations c.args.world.now in
    let f = id_seen c.args.function in
    let active = ids_seen c.args.active.now in
    let h : list_any (same_function f) active ≡ false = sym c.contains.ensures ∙ c.if-contains.false in
    let k : nat_lt (length active) 128 ≡ true = lt-ltb (length active) 128 (omega (arith, c.len.ensures, c.if-len-ge-MOST_ACTIVE.false)) in
    starting_enters ops codes (here_at c.args.place active) f c.args.frame.value.slots below c.args.state.now c.tick.new.state h k c.in_default.ensures
    ∙ ap₂ (λ x a. continuing x below a c.tick.new.state) (sym (c.frame_at_entry.ensures rest)) (sym (ap ids_seen c.in_ok-enter.ensures))

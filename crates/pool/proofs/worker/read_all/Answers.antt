use Rattle.std.proofs.Common.{arith, ℕ, ◌+◌, ◌≡◌, List, map, ap, subst, ◌∙◌, get_or, length-append}
use Rattle.std.specs.Prelude.{Some}
use Rattle.std.proofs.lemmas.List.{map-append, length-map, get_or_read}
use Rattle.board.specs.declared.journal.Journal.{Journal}
use Rattle.board.specs.Views.{knows}
use Rattle.edges.proofs.Lists.{has-get_or}
use Rattle.pool.proofs.Settles.{each_more}
use Rattle.pool.proofs.worker.read_all.Goals as goal

pub value_of-requires-clause-node : goal.value_of-requires-clause-node
value_of-requires-clause-node g c =
    let ds : List ℕ = c.args.list.now in
    let here : c.number.result ≡ get_or ds c.loop-d.d-index 0 = c.number.ensures ∙ get_or_read ds c.loop-d.d-index c.d-item.result c.loop-d-test.true c.d-item.is 0 in
    let down = c.requires.before (get_or ds c.loop-d.d-index 0) (has-get_or ds c.loop-d.d-index c.loop-d-test.true) in
    omega (arith, here, down, c.requires.node)

pub returns-in_default-value_of-clause-fresh : goal.returns-in_default-value_of-clause-fresh
returns-in_default-value_of-clause-fresh g c =
    let ds : List ℕ = c.args.list.now in
    let here : c.number.result ≡ get_or ds c.loop-d.d-index 0 = c.number.ensures ∙ get_or_read ds c.loop-d.d-index c.d-item.result c.loop-d-test.true c.d-item.is 0 in
    let down = c.requires.before (get_or ds c.loop-d.d-index 0) (has-get_or ds c.loop-d.d-index c.loop-d-test.true) in
    c.value_of.ensures.others c.args.n (λ e. omega (arith, here, down, e)) ∙ c.loop-d.invariant.fresh

pub loop-d-preserved : goal.loop-d-preserved
loop-d-preserved g c =
    let was = c.loop-d.invariant in
    let step = c.value_of.ensures in
    let i : ℕ = c.loop-d.d-index in
    let ds : List ℕ = c.args.list.now in
    let us = map (λ r. r.now) c.loop-d.values.items in
    let here : c.number.result ≡ get_or ds i 0 = c.number.ensures ∙ get_or_read ds i c.d-item.result c.loop-d-test.true c.d-item.is 0 in
    let down = c.requires.before (get_or ds i 0) (has-get_or ds i c.loop-d-test.true) in
    let found : knows c.value_of.new.pass (get_or ds i 0) ≡ Some c.in-Some.value.now = subst (λ (k : ℕ). knows c.value_of.new.pass k ≡ Some c.in-Some.value.now) here c.in-Some.ensures.some in
    record {
      of = step.of;
      keeps = λ n v e. step.keeps n v (was.keeps n v e);
      fresh = step.others c.args.n (λ e. omega (arith, here, down, e)) ∙ was.fresh;
      stays = step.stays ∙ ap (λ (j : Journal). record j { seen = c.value_of.new.pass.journal.seen; saw = c.value_of.new.pass.journal.saw }) was.stays;
      room = omega (arith, c.push_reserved.ensures.capacity, was.room);
      len = rw (c.push_reserved.ensures.items, length-append) (ap (λ n. n + 1) was.len);
      each = rw (c.push_reserved.ensures.items, map-append)
          (each_more (knows c.value_of.new.pass) ds us i c.in-Some.value.now (length-map c.loop-d.values.items _ ∙ was.len) found (λ k u low. step.keeps _ _ (was.each k u low)));
    }

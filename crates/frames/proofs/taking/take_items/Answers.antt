use Rattle.std.proofs.Common.{◌≡◌, ◌∙◌, ◌+◌, ◌-◌, ◌<◌, [], ◌∷◌, suc, sym, ap, arith, length}
use Rattle.std.specs.Prelude.{drop}
use Rattle.std.proofs.lemmas.List.{drop_all, drop-set, length-set}
use Rattle.frames.specs.Popped.{popped}
use Rattle.frames.proofs.Popping.{popped-empty, popped-falls, popped-short}
use Rattle.frames.proofs.taking.take_items.Goals as goal

pub returns-then-count-len : goal.returns-then-count-len
returns-then-count-len c = popped-short c.args.count [] c.args.values.now (omega (arith, c.if-count-len.true, c.len.ensures))

pub loop-place-init : goal.loop-place-init
loop-place-init c = (
  c.in_ok-items.ensures,
  ap (λ vs. popped c.args.count vs c.args.values.now) (sym (drop_all c.args.count c.in_ok-items.items (omega (arith, c.in_ok-items.ensures)))),
)

pub set-requires : goal.set-requires
set-requires c = omega (arith, c.loop-place-test.true, c.loop-place.invariant.0, c.loop-place.auto.place)

pub loop-place-preserved : goal.loop-place-preserved
loop-place-preserved c =
    let place = c.loop-place.place in
    let items = c.loop-place.items in
    let k = place - 1 in
    let e : place ≡ suc k = omega (arith, c.loop-place-test.true) in
    let above : place ≡ k + 1 = omega (arith, c.loop-place-test.true) in
    let inside : k < length items = omega (arith, c.loop-place-test.true, c.loop-place.invariant.0, c.loop-place.auto.place) in (
      ap length c.set.ensures ∙ length-set items k c.in-Some.value ∙ c.loop-place.invariant.0,
      c.loop-place.invariant.1
          ∙ ap (popped place (drop place items)) c.in-Some.ensures
          ∙ popped-falls place k (drop place items) c.in-Some.value c.pop.new.self e
          ∙ ap (λ vs. popped k vs c.pop.new.self) (
          ap (λ n. c.in-Some.value ∷ drop n items) above
          ∙ sym (drop-set items k c.in-Some.value inside)
          ∙ sym (ap (drop k) c.set.ensures)),
    )

pub returns-in-None : goal.returns-in-None
returns-in-None c =
    c.loop-place.invariant.1
    ∙ ap (popped c.loop-place.place (drop c.loop-place.place c.loop-place.items)) c.in-None.ensures.0
    ∙ popped-empty c.loop-place.place (drop c.loop-place.place c.loop-place.items) (omega (arith, c.loop-place-test.true))

pub returns : goal.returns
returns c =
    let e : c.loop-place.place ≡ 0 = omega (arith, c.loop-place-test.false) in
    c.loop-place.invariant.1 ∙ ap (λ n. popped n (drop n c.loop-place.items) c.loop-place.values) e

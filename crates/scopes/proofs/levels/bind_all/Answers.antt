use Rattle.std.proofs.Common.{arith, ◌≡◌, ◌≤◌, ◌+◌, [], drop, length, sym, take, ap, ◌∙◌, subst}
use Rattle.std.specs.Prelude.{bytes_eq}
use Rattle.std.proofs.lemmas.List.{drop_all}
use Rattle.indexmap.specs.IndexSet.{insert_all}
use Rattle.scopes.specs.ScopeView.{AreLevel, HasSlots, names_in}
use Rattle.scopes.proofs.NameLemmas.{drop_at, insert_once}
use Rattle.scopes.proofs.levels.bind_all.Goals as goal

pub loop-name-preserved : goal.loop-name-preserved
loop-name-preserved c =
    let names = c.args.names.now in
    let i = c.loop-name.name-index in
    let rest = drop (i + 1) names in
    let here = drop_at names i c.name-item.result (omega (arith, c.loop-name-test.true)) c.name-item.is in
    λ ls w h.
    let before = c.loop-name.invariant ls w h in
    let bound = c.in_ok-bind.ensures ls w before.3 before.1 in (
      before.0
          ∙ ap (insert_all bytes_eq (names_in (drop c.len-first.result c.loop-name.bound.items))) here
          ∙ ap (λ k. insert_all bytes_eq k rest) (sym bound.0),
      bound.1,
      bound.2 ∙ before.2,
      bound.3,
    )

pub returns : goal.returns
returns c =
    let all = c.args.bound.now.items in
    let n = c.len-first.result in
    let same : n ≡ length all = omega (arith, c.len-first.ensures, ap length c.in_ok-reserve-2.ensures.items) in
    let level = drop (length all) c.loop-name.bound.items in
    λ ls w h.
    let after = c.loop-name.invariant ls (w ∙ sym same) (subst (λ es. HasSlots es ls) (sym c.in_ok-reserve.ensures.entries) h) in
    let names = subst (λ k. insert_all bytes_eq [] c.args.names.now ≡ insert_all bytes_eq (names_in (drop k c.loop-name.bound.items)) (drop c.loop-name.name-index c.args.names.now)) same after.0 in (
      sym (ap (insert_all bytes_eq (names_in level)) (drop_all c.loop-name.name-index c.args.names.now c.loop-name-test.false))
          ∙ sym names
          ∙ insert_once c.args.names.now,
      subst (λ k. AreLevel c.loop-name.slots.entries (drop k c.loop-name.bound.items) ls) same after.1,
      subst (λ k. take k c.loop-name.bound.items ≡ all) same (after.2 ∙ c.in_ok-reserve-2.ensures.items),
      subst (λ k. k ≤ length c.loop-name.bound.items) same after.3,
    )

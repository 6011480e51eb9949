use Rattle.std.proofs.Common.{◌≤◌, length, sym, subst, ap, ◌∙◌, arith, take_all}
use Rattle.std.specs.List.{IsDistinct}
use Rattle.indexmap.specs.IndexSet.{insert_key}
use Rattle.values.specs.Visits.{keys_of}
use Rattle.keys.specs.contracts.key.KeyPartialEq.TheImpl.{eq-value}
use Rattle.values.proofs.KeyListLemmas.{keys-next, key_at-entry, length-keys_of}
use Rattle.values.proofs.cells.Entries.keys.Goals as goal

pub loop-i-init : goal.loop-i-init
loop-i-init c = c.in_ok-keys.ensures.empty

-- no key came before, so each is put last
pub loop-i-preserved : goal.loop-i-preserved
loop-i-preserved c =
    let es = c.as_slice-entries.result in
    let distinct = subst (λ l. IsDistinct eq-value.it (keys_of l)) (sym c.as_slice-entries.ensures.entries) c.as_slice-entries.ensures.unique in
    c.in_ok-insert.ensures.keys
    ∙ (λ j. insert_key eq-value.it (c.loop-i.invariant j) ((c.in_ok-key.ensures ∙ c.get.ensures) j))
    ∙ keys-next (keys_of es) c.loop-i.i c.in-Some.key.now distinct
    (key_at-entry es c.loop-i.i c.in-Some.key.now c.in-Some.field-0-1.now (sym c.in-Some.ensures.entry))

pub returns : goal.returns
returns c =
    let es = c.as_slice-entries.result in
    let all : length (keys_of es) ≤ c.loop-i.i = omega (arith, length-keys_of es, c.len-i-end.ensures, c.loop-i-test.false) in
    c.loop-i.invariant ∙ take_all c.loop-i.i (keys_of es) all ∙ ap keys_of (c.as_slice-entries.ensures.entries ∙ c.self.view_is)

use Rattle.std.proofs.Common.{◌≡◌, ◌∙◌, ◌++◌, ◌∷◌, [], true, false, if◌then◌else◌, take, get_or, ap, sym}
use Rattle.std.proofs.lemmas.Bool.{not-false, not-true}
use Rattle.std.proofs.lemmas.List.{take_more}
use Rattle.std.specs.List.{list_any}
use Rattle.std.specs.Str.{bytes_eq}
use Rattle.indexmap.specs.IndexSet.{insert_key}
use Rattle.declaring.proofs.Distinct.{stands-once, stands-twice}
use Rattle.declaring.proofs.fields.are_new.Goals as goal

pub returns-then-not-is_new : goal.returns-then-not-is_new
returns-then-not-is_new c =
    let ns = c.args.names.now in let i = c.loop-name.name-index in let d = c.name-item.result in
    let is : c.in_ok-share.field-0 ≡ get_or ns i d = c.in_ok-share.ensures ∙ c.name-item.is in
    let there : list_any (bytes_eq (get_or ns i d)) (take i ns) ≡ true =
    (λ j. list_any (bytes_eq (sym is j)) (sym c.loop-name.invariant.keys j)) ∙ not-false _ (sym c.in_ok-is_new.ensures.added ∙ c.if-not-is_new.true) in
    sym (stands-twice ns i d c.loop-name-test.true c.loop-name.invariant.distinct there)

pub loop-name-preserved : goal.loop-name-preserved
loop-name-preserved c =
    let ns = c.args.names.now in let i = c.loop-name.name-index in let d = c.name-item.result in
    let is : c.in_ok-share.field-0 ≡ get_or ns i d = c.in_ok-share.ensures ∙ c.name-item.is in
    let fresh : list_any (bytes_eq (get_or ns i d)) (take i ns) ≡ false =
    (λ j. list_any (bytes_eq (sym is j)) (sym c.loop-name.invariant.keys j)) ∙ not-true _ (sym c.in_ok-is_new.ensures.added ∙ c.if-not-is_new.false) in
    record {
      keys =
          c.in_ok-is_new.ensures.keys ∙ (λ j. insert_key bytes_eq (c.loop-name.invariant.keys j) (is j))
          ∙ ap (λ b. if b then take i ns else take i ns ++ get_or ns i d ∷ []) fresh ∙ sym (take_more ns i d c.loop-name-test.true);
      distinct = stands-once ns i d c.loop-name-test.true c.loop-name.invariant.distinct fresh;
    }

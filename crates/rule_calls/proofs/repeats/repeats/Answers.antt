use Rattle.std.proofs.Common.{◌≡◌, ◌∙◌, ◌+◌, ◌++◌, ◌∷◌, [], true, false, List, take, get_or, ap, sym, subst}
use Rattle.std.proofs.lemmas.Bool.{not-false, not-true, or_from}
use Rattle.std.proofs.lemmas.List.{take_more}
use Rattle.std.specs.List.{list_any}
use Rattle.workspace.specs.Labels.{LabelParts, same_label}
use Rattle.analysis.specs.Keyed.{Key, key_label, IsNoted}
use Rattle.analysis.proofs.Keyed.{noted_last}
use Rattle.targets.proofs.Facts.{or_right}
use Rattle.targets.specs.RuleCalls.{repeats}
use Rattle.rule_calls.proofs.Repeated.{repeats-more, repeats-whole}
use Rattle.rule_calls.proofs.repeats.repeats.Goals as goal

pub returns-then-not-is_new : goal.returns-then-not-is_new
returns-then-not-is_new c =
    let ls = c.args.labels.now in let i = c.loop-label.label-index in let d = c.label-item.result in
    let k : Key = c.label_key.result in
    let is : key_label k ≡ get_or ls i d = c.label_key.ensures.0 ∙ c.get.ensures ∙ c.label-item.is in
    let there : list_any (same_label (get_or ls i d)) (take i ls) ≡ true =
    ap (λ (l : LabelParts). list_any (same_label l) (take i ls)) (sym is) ∙ sym (c.loop-label.invariant.noted k c.label_key.ensures.1) ∙ not-false _ (sym c.in_ok-is_new.ensures.added ∙ c.if-not-is_new.true) in
    sym (repeats-whole ls (i + 1) (repeats-more ls i d c.loop-label-test.true ∙ or_right (repeats (take i ls)) (list_any (same_label (get_or ls i d)) (take i ls)) there))

pub loop-label-preserved : goal.loop-label-preserved
loop-label-preserved c =
    let ls = c.args.labels.now in let i = c.loop-label.label-index in let d = c.label-item.result in
    let k : Key = c.label_key.result in
    let is : key_label k ≡ get_or ls i d = c.label_key.ensures.0 ∙ c.get.ensures ∙ c.label-item.is in
    let fresh : list_any (same_label (get_or ls i d)) (take i ls) ≡ false =
    ap (λ (l : LabelParts). list_any (same_label l) (take i ls)) (sym is) ∙ sym (c.loop-label.invariant.noted k c.label_key.ensures.1) ∙ not-true _ (sym c.in_ok-is_new.ensures.added ∙ c.if-not-is_new.false) in
    let whole : take i ls ++ key_label k ∷ [] ≡ take (i + 1) ls = ap (λ (l : LabelParts). take i ls ++ l ∷ []) is ∙ sym (take_more ls i d c.loop-label-test.true) in
    record {
      distinct = repeats-more ls i d c.loop-label-test.true ∙ or_from (repeats (take i ls)) (list_any (same_label (get_or ls i d)) (take i ls)) c.loop-label.invariant.distinct fresh;
      noted =
          subst (λ (xs : List LabelParts). IsNoted xs c.insert.new.self) whole
          (noted_last (take i ls) c.loop-label.seen c.insert.new.self k c.label_key.ensures.1 c.loop-label.invariant.noted c.in_ok-is_new.ensures.updates);
    }

use Rattle.std.proofs.Common.{◌≡◌, ◌∙◌, ◌++◌, ◌∷◌, [], false, List, ap, sym, subst}
use Rattle.std.proofs.lemmas.Bool.{not-false, not-true}
use Rattle.std.specs.List.{list_any}
use Rattle.depsets.proofs.Keys.{keep-absent}
use Rattle.workspace.specs.Labels.{LabelParts, same_label}
use Rattle.analysis.specs.Keyed.{Key, key_label, IsNoted}
use Rattle.analysis.proofs.Keyed.{kept_present, noted_last}
use Rattle.analysis.proofs.noted.note.Goals as goal

pub returns-in_ok-push-clause-labels : goal.returns-in_ok-push-clause-labels
returns-in_ok-push-clause-labels c =
    let ls = c.args.labels.now in
    let k : Key = c.label_key.result in
    let is : key_label k ≡ c.args.label.now = c.label_key.ensures.0 ∙ c.get.ensures in
    let fresh : list_any (same_label c.args.label.now) ls ≡ false =
    ap (λ (l : LabelParts). list_any (same_label l) ls) (sym is) ∙ sym (c.requires k c.label_key.ensures.1) ∙ not-true _ (sym c.in_ok-is_new.ensures.added ∙ c.if-is_new.true) in
    c.in_ok-push.ensures.ok ∙ ap (λ (l : LabelParts). ls ++ l ∷ []) c.in_ok-share.ensures ∙ sym (keep-absent same_label ls c.args.label.now fresh)

pub returns-in_ok-push-clause-noted : goal.returns-in_ok-push-clause-noted
returns-in_ok-push-clause-noted c =
    let ls = c.args.labels.now in
    let k : Key = c.label_key.result in
    let is : key_label k ≡ c.args.label.now = c.label_key.ensures.0 ∙ c.get.ensures in
    let whole : ls ++ key_label k ∷ [] ≡ c.push.new.self = ap (λ (l : LabelParts). ls ++ l ∷ []) (is ∙ sym c.in_ok-share.ensures) ∙ sym c.in_ok-push.ensures.ok in
    subst (λ (xs : List LabelParts). IsNoted xs c.insert.new.self) whole
    (noted_last ls c.args.seen.now c.insert.new.self k c.label_key.ensures.1 c.requires c.in_ok-is_new.ensures.updates)

pub returns-else-is_new-clause-labels : goal.returns-else-is_new-clause-labels
returns-else-is_new-clause-labels c =
    let ls = c.args.labels.now in
    let k : Key = c.label_key.result in
    let is : key_label k ≡ c.args.label.now = c.label_key.ensures.0 ∙ c.get.ensures in
    kept_present ls c.args.label.now
    (ap (λ (l : LabelParts). list_any (same_label l) ls) (sym is) ∙ sym (c.requires k c.label_key.ensures.1) ∙ not-false _ (sym c.in_ok-is_new.ensures.added ∙ c.if-is_new.false))

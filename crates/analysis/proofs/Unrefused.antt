-- Attributes that ask nothing of targets refuse none.
use Rattle.std.proofs.Common.{◌≡◌, Bool, true, false, ◌||◌, List, [], ◌∷◌, Option, Some, None, if◌then◌else◌, ap, sym, refl, true≢false}
use Rattle.std.specs.Option.{option_or}
use Rattle.std.specs.List.{list_any}
use Rattle.workspace.specs.Labels.{LabelParts, same_label}
use Rattle.targets.specs.Attributes.{labels_in}
use Rattle.targets.specs.Checks.{Dependency, offers_all, refusal, refused, dependency_of, first_in_value, first_refused}
use Rattle.targets.specs.declared.attributes.AttributeValue.{AttributeValue}
use Rattle.targets.specs.declared.attributes.NamedAttribute.{NamedAttribute}
use Rattle.targets.specs.declared.outcome.Outcome.TheVariants.{Source, Done, Failed}
use Rattle.targets.specs.declared.outcome.TargetFault.{TargetFault}
use Rattle.targets.specs.declared.outcome.TargetFault.TheVariants as fault
use Rattle.targets.proofs.Facts.{both}
use Rattle.analysis.specs.Unasked.{takes_targets, take_targets, is_no_source, are_no_sources}

not_refused : (a : NamedAttribute) (d : Dependency) → takes_targets a ≡ true → is_no_source d.1 ≡ true → refusal a d ≡ None
not_refused a (l, Source f) takes unsourced = absurd (true≢false (sym unsourced))
not_refused a (l, Done ts actions) takes unsourced =
    ap (λ b. if b || list_any (offers_all ts) a.attribute.providers then None else Some (fault.ProvidersMissing a.name l)) takes
not_refused a (l, Failed e) takes unsourced = refl

none_refused : (a : NamedAttribute) (ds : List Dependency) (l : LabelParts) → takes_targets a ≡ true → are_no_sources ds ≡ true → refused a (dependency_of ds l) ≡ None
none_refused a [] l takes unsourced = refl
none_refused a (d ∷ ds) l takes unsourced =
    let parts = both (is_no_source d.1) (are_no_sources ds) unsourced in
    at (same_label l d.0) (not_refused a d takes parts.0) (none_refused a ds l takes parts.1)
  where
    at : (b : Bool) → refusal a d ≡ None → refused a (dependency_of ds l) ≡ None → refused a (if b then Some d else dependency_of ds l) ≡ None
    at true h k = h
    at false h k = k

none_first : (o p : Option TargetFault) → o ≡ None → p ≡ None → option_or o p ≡ None
none_first o p h k = (λ i. option_or (h i) (k i))

none_in_value : (ds : List Dependency) (a : NamedAttribute) (ls : List LabelParts) → takes_targets a ≡ true → are_no_sources ds ≡ true → first_in_value ds a ls ≡ None
none_in_value ds a [] takes unsourced = refl
none_in_value ds a (l ∷ ls) takes unsourced =
    none_first (refused a (dependency_of ds l)) (first_in_value ds a ls) (none_refused a ds l takes unsourced) (none_in_value ds a ls takes unsourced)

pub none_in_all : (ds : List Dependency) (named : List NamedAttribute) (vs : List AttributeValue) → take_targets named ≡ true → are_no_sources ds ≡ true
    → None ≡ first_refused ds named vs
none_in_all ds [] vs takes unsourced = refl
none_in_all ds (a ∷ rest) [] takes unsourced = refl
none_in_all ds (a ∷ rest) (v ∷ vs) takes unsourced =
    let parts = both (takes_targets a) (take_targets rest) takes in
    (λ i. option_or (sym (none_in_value ds a (labels_in v) parts.0 unsourced) i) (none_in_all ds rest vs parts.1 unsourced i))

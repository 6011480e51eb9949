-- The first refusal is told.
use Rattle.std.proofs.Common.{◌≡◌, ◌∙◌, List, [], ◌∷◌, ◌++◌, map, Option, Some, None, ap, sym, refl}
use Rattle.std.specs.Option.{option_or}
use Rattle.std.specs.List.{AllByRecursion}
use Rattle.workspace.specs.Labels.{LabelParts}
use Rattle.targets.specs.Attributes.{labels_in}
use Rattle.targets.specs.Checks.{Dependency, refused, dependency_of, first_in_value, first_refused}
use Rattle.targets.specs.Laws.{Asked, asked, Passes, IsFirstRefused}
use Rattle.targets.specs.declared.attributes.AttributeValue.{AttributeValue}
use Rattle.targets.specs.declared.attributes.NamedAttribute.{NamedAttribute}
use Rattle.targets.specs.declared.outcome.TargetFault.{TargetFault}

module _ (ds : List Dependency) where
  abbrev why : Asked → Option TargetFault
  why q = refused q.0 (dependency_of ds q.1)

  -- the first refusal in a list of what is asked
  abbrev first_why : List Asked → Option TargetFault
  first_why [] = None
  first_why (q ∷ qs) = option_or (why q) (first_why qs)

  first_behind : (ps qs : List Asked) → first_why (ps ++ qs) ≡ option_or (first_why ps) (first_why qs)
  first_behind [] qs = refl
  first_behind (p ∷ ps) qs = at (why p) (first_behind ps qs)
    where
      at : (o : Option TargetFault) → first_why (ps ++ qs) ≡ option_or (first_why ps) (first_why qs) → option_or o (first_why (ps ++ qs)) ≡ option_or (option_or o (first_why ps)) (first_why qs)
      at (Some f) h = refl
      at None h = h

  of_value : (a : NamedAttribute) (ls : List LabelParts) → first_in_value ds a ls ≡ first_why (map (λ l. (a, l)) ls)
  of_value a [] = refl
  of_value a (l ∷ ls) = ap (option_or (refused a (dependency_of ds l))) (of_value a ls)

  of_all : (rest : List NamedAttribute) (vs : List AttributeValue) → first_refused ds rest vs ≡ first_why (asked rest vs)
  of_all [] vs = refl
  of_all (a ∷ rest) [] = refl
  of_all (a ∷ rest) (v ∷ vs) =
      (λ i. option_or (of_value a (labels_in v) i) (of_all rest vs i)) ∙ sym (first_behind (map (λ l. (a, l)) (labels_in v)) (asked rest vs))

  none_why : (qs : List Asked) → first_why qs ≡ None → AllByRecursion (Passes ds) qs
  none_why [] e = tt
  none_why (q ∷ qs) e = at (why q) refl (none_why qs) e
    where
      at : (o : Option TargetFault) → why q ≡ o → (first_why qs ≡ None → AllByRecursion (Passes ds) qs) → option_or o (first_why qs) ≡ None → AllByRecursion (Passes ds) (q ∷ qs)
      at None is k h = (is, k h)
      at (Some f) is k h = absurd (cc)

  some_why : (qs : List Asked) (f : TargetFault) → first_why qs ≡ Some f → IsFirstRefused ds qs f
  some_why [] f e = absurd (cc)
  some_why (q ∷ qs) f e = at (why q) refl (some_why qs f) e
    where
      at : (o : Option TargetFault) → why q ≡ o → (first_why qs ≡ Some f → IsFirstRefused ds qs f) → option_or o (first_why qs) ≡ Some f → IsFirstRefused ds (q ∷ qs) f
      at (Some g) is k h = record { before = []; one = q; behind = qs; whole = refl; passed = tt; refused = is ∙ h }
      at None is k h =
          let r = k h in
          record { before = q ∷ r.before; one = r.one; behind = r.behind; whole = ap (λ (xs : List Asked). q ∷ xs) r.whole; passed = (is, r.passed); refused = r.refused }

  pub tells_none : (rest : List NamedAttribute) (vs : List AttributeValue) → first_refused ds rest vs ≡ None → AllByRecursion (Passes ds) (asked rest vs)
  tells_none rest vs e = none_why (asked rest vs) (sym (of_all rest vs) ∙ e)

  pub tells_first : (rest : List NamedAttribute) (vs : List AttributeValue) (f : TargetFault) → first_refused ds rest vs ≡ Some f → IsFirstRefused ds (asked rest vs) f
  tells_first rest vs f e = some_why (asked rest vs) f (sym (of_all rest vs) ∙ e)

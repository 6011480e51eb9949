-- What a target has for the attribute of a name, by the attribute's place.
use Rattle.std.proofs.Common.{◌≡◌, ◌∙◌, ℕ, ◌+◌, Bool, true, false, suc, List, [], ◌∷◌, map, Option, Some, None, if◌then◌else◌, ap, refl, arith}
use Rattle.std.proofs.lemmas.Option.{slice_get-map}
use Rattle.std.specs.Prelude.{option_map}
use Rattle.std.specs.List.{position_from}
use Rattle.std.specs.Str.{bytes_eq}
use Rattle.depsets.specs.Listed.{walked}
use Rattle.first_places.specs.Places.{place_named}
use Rattle.operations.specs.Items.{at_place}
use Rattle.targets.specs.Placed.{names_of}
use Rattle.targets.specs.declared.attributes.AttributeValue.{AttributeValue}
use Rattle.targets.specs.declared.attributes.NamedAttribute.{NamedAttribute}
use Rattle.contexts.specs.Fields.{value_named, files_or_name, labels_for, files_field}
use Rattle.targets.specs.Checks.{Dependency}
use Rattle.targets.specs.declared.target.Target.{Target}

after : (b : Bool) (i : ℕ) (o p : Option ℕ) → p ≡ option_map (λ n. suc n) o → (if b then Some (suc i) else p) ≡ option_map (λ n. suc n) (if b then Some i else o)
after true i o p h = refl
after false i o p h = h

-- a place that is counted from one more
later_place : (x : List ℕ) (i : ℕ) (ns : List (List ℕ)) → position_from (bytes_eq x) (suc i) ns ≡ option_map (λ n. suc n) (position_from (bytes_eq x) i ns)
later_place x i [] = refl
later_place x i (n ∷ ns) =
    let e : suc i + 1 ≡ suc (i + 1) = omega arith in
    after (bytes_eq x n) i (position_from (bytes_eq x) (i + 1) ns) (position_from (bytes_eq x) (suc i + 1) ns) (ap (λ k. position_from (bytes_eq x) k ns) e ∙ later_place x (i + 1) ns)

next : {A : Type 0} (v : A) (vs : List A) (o : Option ℕ) → at_place (v ∷ vs) (option_map (λ n. suc n) o) ≡ at_place vs o
next v vs None = refl
next v vs (Some i) = refl

nowhere : {A : Type 0} (o : Option ℕ) → at_place {A = A} [] o ≡ None
nowhere None = refl
nowhere (Some i) = refl

chosen : {A : Type 0} (b : Bool) (v : A) (vs : List A) (o : Option ℕ) (later : Option A) → at_place (v ∷ vs) o ≡ later
    → at_place (v ∷ vs) (if b then Some 0 else o) ≡ (if b then Some v else later)
chosen true v vs o later h = refl
chosen false v vs o later h = h

pub named_at : (x : List ℕ) (named : List NamedAttribute) (vs : List AttributeValue) → at_place vs (place_named x (names_of named)) ≡ value_named x named vs
named_at x [] vs = refl
named_at x (a ∷ rest) [] = nowhere (place_named x (names_of (a ∷ rest)))
named_at x (a ∷ rest) (v ∷ vs) =
    chosen (bytes_eq x a.name) v vs (position_from (bytes_eq x) 1 (names_of rest)) (value_named x rest vs)
    (ap (at_place (v ∷ vs)) (later_place x 0 (names_of rest)) ∙ next v vs (position_from (bytes_eq x) 0 (names_of rest)) ∙ named_at x rest vs)

-- what stands at a place, of what is made of each
pub mapped_at : {A B : Type 0} (f : A → B) (xs : List A) (o : Option ℕ) → at_place (map f xs) o ≡ option_map f (at_place xs o)
mapped_at f xs None = refl
mapped_at f xs (Some i) = slice_get-map f xs i

-- `ctx.files` of a name, by the attribute's place
pub files_named : (t : Target) (ds : List Dependency) (x : List ℕ) (o : Option ℕ) → o ≡ place_named x (names_of t.rule.attributes)
    → files_or_name walked ds (labels_for (at_place t.values o)) ≡ files_field walked t ds x
files_named t ds x o h =
    ap (λ p. files_or_name walked ds (labels_for (at_place t.values p))) h
    ∙ ap (λ v. files_or_name walked ds (labels_for v)) (named_at x t.rule.attributes t.values)

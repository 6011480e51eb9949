-- Names of attributes, and their defaults.
use Rattle.std.proofs.Common.{◌≡◌, ◌∙◌, ℕ, ◌+◌, Bool, true, false, ◌||◌, List, [], ◌∷◌, slice_get, Option, Some, if◌then◌else◌, ap, sym, refl}
use Rattle.std.specs.Prelude.{is_some, option_map}
use Rattle.std.specs.List.{list_any, position_from}
use Rattle.std.proofs.lemmas.Option.{slice_get-map}
use Rattle.std.specs.Str.{bytes_eq}
use Rattle.first_places.specs.Places.{place_named}
use Rattle.targets.specs.Attributes.{default_of}
use Rattle.targets.specs.Placed.{names_of, defaults_of}
use Rattle.targets.specs.declared.attributes.AttributeValue.{AttributeValue}
use Rattle.targets.specs.declared.attributes.NamedAttribute.{NamedAttribute}

found : (b : Bool) (i : ℕ) (o : Option ℕ) (rest : Bool) → is_some o ≡ rest → is_some (if b then Some i else o) ≡ (b || rest)
found true i o rest h = refl
found false i o rest h = h

found_from : (x : List ℕ) (i : ℕ) (named : List NamedAttribute) → is_some (position_from (bytes_eq x) i (names_of named)) ≡ list_any (λ a. bytes_eq x a.name) named
found_from x i [] = refl
found_from x i (a ∷ rest) = found (bytes_eq x a.name) i (position_from (bytes_eq x) (i + 1) (names_of rest)) (list_any (λ b. bytes_eq x b.name) rest) (found_from x (i + 1) rest)

-- a name that has a place is an attribute's
pub found_is_among : (x : List ℕ) (named : List NamedAttribute) → is_some (place_named x (names_of named)) ≡ list_any (λ a. bytes_eq x a.name) named
found_is_among x named = found_from x 0 named

-- the default at a place is that of the attribute there
pub default_is : (named : List NamedAttribute) (i : ℕ) (a : NamedAttribute) (d : AttributeValue) → slice_get named i ≡ Some a → slice_get (defaults_of named) i ≡ Some d
    → d ≡ default_of a.attribute
default_is named i a d at is =
    let f = λ (b : NamedAttribute). default_of b.attribute in
    let same : Some (default_of a.attribute) ≡ Some d = sym (slice_get-map f named i ∙ ap (option_map f) at) ∙ is in cc

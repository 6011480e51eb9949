-- Attributes that refuse no target, and dependencies among which there is no source file.
-- (docs/PROFILE.md, "Checks of dependencies"; this project's own.)
use Rattle.std.specs.Prelude.{Bool, true, false, nat_eq, List, length}
use Rattle.std.specs.List.{list_all}
use Rattle.targets.specs.Checks.{Dependency}
use Rattle.targets.specs.declared.attributes.NamedAttribute.{NamedAttribute}
use Rattle.targets.specs.declared.outcome.Outcome.{Outcome}
use Rattle.targets.specs.declared.outcome.Outcome.TheVariants.{Source, Done, Failed}

-- it asks no providers of a target
abbrev pub takes_targets : NamedAttribute → Bool
takes_targets a = nat_eq (length a.attribute.providers) 0

-- none of these attributes asks providers
abbrev pub take_targets : List NamedAttribute → Bool
take_targets named = list_all takes_targets named

-- whether an outcome isn't that of a source file
abbrev pub is_no_source : Outcome → Bool
is_no_source (Source f) = false
is_no_source (Done ts actions) = true
is_no_source (Failed e) = true

-- whether no dependency is a source file
abbrev pub are_no_sources : List Dependency → Bool
are_no_sources ds = list_all (λ d. is_no_source d.1) ds

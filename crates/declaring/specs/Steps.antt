-- What is declared, by its number. (This project's own.)
use Rattle.std.specs.Prelude.{ℕ, List, [], ◌∷◌, ◌++◌, length, Some, Result, Ok}
use Rattle.leaves.specs.declared.leaf.ExportName.TheVariants as export
use Rattle.leaves.specs.declared.leaf.Leaf.TheVariants as plain
use Rattle.leaves.specs.declared.leaf.Provider.{Provider}
use Rattle.leaves.specs.declared.leaf.ProviderRef.TheVariants as provider
use Rattle.ticks.specs.declared.ticks.Kind.{Kind}
use Rattle.values.specs.declared.value.Value.{Value}
use Rattle.values.specs.declared.value.Value.TheVariants as value
use Rattle.operations.specs.declared.state.State.{State}
use Rattle.targets.specs.declared.attributes.Rule.{Rule}
use Rattle.targets.specs.declared.declarations.Declarations.{Declarations}

-- the provider of a number of the module that is evaluated
abbrev pub provider_numbered : State → ℕ → List (List ℕ) → Provider
provider_numbered s n fields = record {
  id = Some (record { «module» = s.file; number = n });
  name = provider.Exported (record { path = s.owner; name = export.Making n });
  fields = fields;
}

-- the value that names the rule of a number
abbrev pub rule_named : State → ℕ → Value
rule_named s n = value.Leaf (plain.Rule (record {
  id = record { «module» = s.file; number = n };
  name = record { path = s.owner; name = export.Making n };
}))

-- a rule more
abbrev pub rule_put : State → Declarations → Rule → Result (Value × Declarations) Kind
rule_put s d r = Ok (rule_named s (length d.rules), record d { rules = d.rules ++ r ∷ [] })

-- The targets that a package has declared so far. (This project's own.)
use Rattle.std.specs.Prelude.{ℕ, Bool, List, map}
use Rattle.std.specs.List.{list_all}
use Rattle.workspace.specs.Labels.{same_label}
use Rattle.targets.specs.declared.target.Target.{Target}

-- the package of the BUILD file that runs, and the targets that it has declared, in order
pub record Declared : Type 0 where
  pub «package» : List ℕ
  pub targets : List Target

-- a target of a package that stands under its name
abbrev pub is_named : List ℕ → (List ℕ × Target) → Bool
is_named p e = same_label (record { «package» = p; name = e.0 }) e.1.label

-- each of a package's targets stands under its name
abbrev pub are_named : List ℕ → List (List ℕ × Target) → Bool
are_named p es = list_all (is_named p) es

-- what a package has declared, by the table in which its targets stand under their names
abbrev pub declared_of : List ℕ → List (List ℕ × Target) → Declared
declared_of p es = record { «package» = p; targets = map (λ e. e.1) es }

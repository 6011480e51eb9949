-- Actions whose inputs are coherent: in a depset of inputs any two parts with one id are the same.
-- (Bazel's documentation of depsets has no ids; they are this project's own.)
use Rattle.std.specs.Prelude.{List}
use Rattle.depsets.specs.Listed.{IsCoherent}
use Rattle.actions.specs.Ascending.{Each}
use Rattle.actions.specs.declared.action.Inputs.{Inputs}
use Rattle.actions.specs.declared.action.Inputs.TheVariants as inputs
use Rattle.claims.specs.Owned.{Owned}

-- Files are coherent always; a depset is where any two of its parts with one id are the same.
abbrev pub AreCoherentInputs : Inputs → Type 0
AreCoherentInputs (inputs.Files files) = Unit {0}
AreCoherentInputs (inputs.Depset d) = IsCoherent d

-- The inputs of each action of a list are coherent.
abbrev pub AreCoherent : List Owned → Type 0
AreCoherent os = Each (λ o. AreCoherentInputs o.action.inputs) os

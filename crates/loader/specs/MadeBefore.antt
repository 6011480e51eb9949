-- What the modules before an evaluation declared, by number. (This project's own.)
use Rattle.std.specs.Prelude.{ℕ, List, Option, option_and_then, slice_get}
use Rattle.leaves.specs.declared.leaf.MadeId.{MadeId}
use Rattle.targets.specs.declared.attributes.Attribute.{Attribute}
use Rattle.targets.specs.declared.attributes.Rule.{Rule}
use Rattle.loading.specs.Loads.{Path}
use Rattle.evaluation.specs.Evaluated.{Known}
use Rattle.evaluation.specs.Worlds.{module_numbered}

-- an attribute, by the path of its module
abbrev pub attribute_at : Known → Path → ℕ → Option Attribute
attribute_at known path n = option_and_then (λ m. slice_get m.made.attributes n) (known path)

-- a rule, by the numbers of its module and of its own
abbrev pub rule_of : List Path → Known → MadeId → Option Rule
rule_of paths known id =
    option_and_then (λ m. slice_get m.made.rules id.number)
    (module_numbered paths known id.«module»)

-- A call of a rule in two steps: the target is read out of what is given, and then what is given is
-- frozen. (docs/PROFILE.md, "Calling a rule"; this project's own.)
use Rattle.std.specs.Prelude.{◌≡◌, ◌||◌, List, [], ◌∷◌, ◌++◌, Option, Some, Result, Ok, Err}
use Rattle.std.specs.Prelude.{MatchResult, if◌then◌else◌, codes}
use Rattle.ticks.specs.Ticking.{FaultOr}
use Rattle.values.specs.declared.cells.Cell.{Cell}
use Rattle.ticks.specs.declared.ticks.Broken.{Broken}
use Rattle.ticks.specs.declared.ticks.Kind.{Kind}
use Rattle.ticks.specs.declared.ticks.Kind.TheVariants.{Wrong, Key as key_fault}
use Rattle.operations.specs.Arguments.{Given}
use Rattle.operations.specs.States.{Op, Doing, Stays}
use Rattle.operations.specs.declared.state.State.{State}
use Rattle.workspace.specs.Labels.{LabelParts}
use Rattle.targets.specs.RuleCalls.{given_as, label_from, value_for, each_of, repeats_given}
use Rattle.targets.specs.RuleCalls.{has_declared, declares}
use Rattle.targets.specs.declared.attributes.AttributeValue.{AttributeValue}
use Rattle.targets.specs.declared.attributes.Rule.{Rule}
use Rattle.targets.specs.declared.target.Target.{Target}
use Rattle.rule_calls.specs.Packages.{Declared}

-- the target of this label and these values, or the first of `type` and `key`
abbrev pub target_of : Rule → List Target → Given → Option LabelParts → Option (List AttributeValue)
    → Result Target Kind
target_of r ts g (Some l) (Some vs) =
    if repeats_given r.attributes g vs || has_declared ts l then Err key_fault
    else Ok (record { label = l; rule = r; values = vs })
target_of r ts g _ _ = Err Wrong

-- the target that a call of a rule declares in a package, before what is given is frozen
abbrev pub target_read : List Cell → Declared → Rule → Given → Result Target Kind
target_read h d r g =
    target_of r d.targets g (label_from h d.«package» (given_as g (codes "name")))
    (each_of (value_for h d.«package» g) r.attributes)

-- the package with a target more
abbrev pub with_target : Declared → Target → Declared
with_target d t = record d { targets = d.targets ++ t ∷ [] }

-- the package has the target that was declared, or the call has its fault
abbrev pub then_declared : Declared → Doing Target → Doing Declared
then_declared d (Ok p) = Ok (with_target d p.0, p.1)
then_declared d (Err k) = Err k

-- a call of a rule while the BUILD file of the package runs: the package has the target that it
-- declares
abbrev pub call : Declared → Rule → Given → Op Declared
call d r g s = then_declared d (declares d.«package» d.targets r g s)

-- A call does so. After a fault, and after want of memory, the package has what it had, and the
-- heap and the count of depsets are as they were; the ticks are open.
abbrev pub Calls : Doing Declared → Declared → State → Result (Unit {0}) Broken → Declared → State
    → Type 0
Calls r d s result new after =
    MatchResult result (λ _. r ≡ Ok (new, after)) (λ e. (new ≡ d) × Stays s after × FaultOr r e)

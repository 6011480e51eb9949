-- The depsets that stand in outcomes, each with all below it. (Bazel's documentation of depsets has
-- no ids; they, and what counts as standing in an outcome, are this project's own.)
use Rattle.std.specs.Prelude.{ℕ, List, [], ◌∷◌, ◌++◌}
use Rattle.std.specs.List.{flat_map}
use Rattle.depsets.specs.Flat.{nodes, Among}
use Rattle.depsets.specs.Rose.{label}
use Rattle.depsets.specs.declared.depset.Id.{Id}
use Rattle.depsets.specs.declared.element.Element.TheVariants as element
use Rattle.actions.specs.declared.action.Action.{Action}
use Rattle.actions.specs.declared.action.Inputs.{Inputs}
use Rattle.actions.specs.declared.action.Inputs.TheVariants as inputs
use Rattle.coherence.specs.Coherent.{Depsets, IsMade}
use Rattle.one_tree.specs.Found.{Set, in_tree, in_outcome}
use Rattle.targets.specs.Sources.{first_depset}
use Rattle.targets.specs.Steps.{Implemented}
use Rattle.targets.specs.declared.outcome.Outcome.{Outcome}
use Rattle.targets.specs.declared.outcome.Outcome.TheVariants.{Source, Done, Failed}

-- the id of a depset
abbrev pub id_of : Set → Id
id_of d = (label d).id

-- the owner of an id: the path of the file or the label of the target whose evaluation made the
-- depset, or the label of the source file whose depset it is
abbrev pub owner_of : Id → List ℕ
owner_of i = i.owner

-- the serial of an id, its number among those of its owner: 0 where no call made the depset
abbrev pub serial_of : Id → ℕ
serial_of i = i.serial

-- those that actions have as inputs
abbrev pub in_inputs : Inputs → List Set
in_inputs (inputs.Files fs) = []
in_inputs (inputs.Depset d) = nodes d

-- and that these actions have
abbrev pub in_actions : List Action → List Set
in_actions actions = flat_map (λ a. in_inputs a.inputs) actions

-- A source file counts as having the depset of its File.
abbrev pub in_target : Outcome → List Set
in_target (Source f) = first_depset f.owner (element.File f ∷ []) ∷ []
in_target (Done ts actions) = in_outcome ts ++ in_actions actions
in_target (Failed f) = []

-- an outcome has the depsets that stand in it
abbrev pub has_depset : Outcome → Depsets Set
has_depset o d = Among d (in_target o)

-- those that stand in what the call of an implementation gave: in its result, and in inputs of
-- actions
abbrev pub in_implemented : Implemented → List Set
in_implemented i = in_tree i.result ++ in_actions i.actions

-- the call gave the depsets that stand there
abbrev pub gave : Implemented → Depsets Set
gave i d = Among d (in_implemented i)

-- What an evaluation of this owner gave, from what it was given, is coherent with that, and what is
-- new is its own.
abbrev pub IsMadeBy : List ℕ → Depsets Set → Implemented → Type 0
IsMadeBy o given i = IsMade id_of owner_of serial_of o given (gave i)

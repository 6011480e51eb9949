-- What an implementation has while it runs: the fields and items of the targets that it depends on,
-- `ctx` and its parts, and the methods of `ctx.actions` (docs/PROFILE.md, "Rules of all calls" and
-- "Fields").
use Rattle.std.specs.Prelude.{ℕ, Bool, false, List, [], Option, Some, None, is_some}
use Rattle.std.specs.Prelude.{Err, if◌then◌else◌}
use Rattle.depsets.specs.Listed.{walked}
use Rattle.leaves.specs.declared.leaf.BuiltIn.{BuiltIn}
use Rattle.leaves.specs.declared.leaf.BuiltIn.TheVariants as built_in
use Rattle.leaves.specs.declared.leaf.Leaf.{Leaf}
use Rattle.leaves.specs.declared.leaf.Leaf.TheVariants as plain
use Rattle.leaves.specs.declared.leaf.Object.{Object}
use Rattle.leaves.specs.declared.leaf.Object.TheVariants as object
use Rattle.ticks.specs.declared.ticks.Kind.{Kind}
use Rattle.ticks.specs.declared.ticks.Kind.TheVariants as fault
use Rattle.values.specs.declared.value.Value.{Value}
use Rattle.operations.specs.Arguments.{Given}
use Rattle.language.specs.Attr.{kind_named}
use Rattle.language.specs.Place.{Does, Place, with_state}
use Rattle.workspace.specs.Labels.{LabelParts}
use Rattle.targets.specs.Checks.{Dependency}
use Rattle.targets.specs.declared.target.Target.{Target}
use Rattle.evaluation.specs.Runs.{OfTarget}
use Rattle.contexts.specs.declared.method.ActionMethod.{ActionMethod}
use Rattle.contexts.specs.declared.work.Work.{Work}
use Rattle.contexts.specs.Offered.{item, offers}
use Rattle.contexts.specs.Fields.{field}
use Rattle.contexts.specs.Actions.{method_named, method_call}

-- how a call of a built-in function is refused: `provider` and `rule`, as the methods of `attr`,
-- are called by a module alone, and a rule by a `BUILD` file
abbrev pub built_in_refused : BuiltIn → Kind
built_in_refused built_in.Provider = fault.Place
built_in_refused built_in.Rule = fault.Place
built_in_refused _ = fault.Wrong

-- how a call is refused that the language leaves to the place: an implementation may make none
abbrev pub refused : Leaf → Kind
refused (plain.BuiltIn b) = built_in_refused b
refused (plain.Rule r) = fault.Place
refused _ = fault.Wrong

-- whether `attr` has a method of this name
abbrev pub is_attr_method : List ℕ → Bool
is_attr_method x = is_some (kind_named x)

-- whether an object has a method of this name: `attr` and `ctx.actions` have some
abbrev pub object_has_method : Object → List ℕ → Bool
object_has_method object.Attr x = is_attr_method x
object_has_method object.ContextActions x = is_some (method_named x)
object_has_method _ x = false

-- whether a value has a method that is its place's: nothing but an object has
abbrev pub has_method : Leaf → List ℕ → Bool
has_method (plain.Object o) x = object_has_method o x
has_method _ x = false

-- a call of a method of `ctx.actions`; no such method is `name`
abbrev pub action_call : LabelParts → Option ActionMethod → Given → Does Work Value
action_call l (Some m) g w = with_state w (method_call l m w.state.heap g w.work)
action_call l None g w = Err fault.Name

-- how a call of a method of `attr` is refused: `place`, or `name` where there is none
abbrev pub attr_refused : List ℕ → Kind
attr_refused x = if is_attr_method x then fault.Place else fault.Name

-- a call of a method of an object, for the target of a label
abbrev pub object_method : LabelParts → Object → List ℕ → Given → Does Work Value
object_method l object.Attr x g w = Err (attr_refused x)
object_method l object.ContextActions x g w = action_call l (method_named x) g w
object_method l _ x g w = Err fault.Name

-- the same, of any value that the language leaves to the place
abbrev pub call_method : LabelParts → Leaf → List ℕ → Given → Does Work Value
call_method l (plain.Object o) x g w = object_method l o x g w
call_method l _ x g w = Err fault.Name

-- what the implementation of a target has while it runs, by its label, its rule and attributes, and
-- its dependencies with their outcomes
abbrev pub implementation_place : LabelParts → Target → List Dependency → Place Work
implementation_place l t ds = record {
  call = λ c g w. Err (refused c);
  has_method = has_method;
  method = call_method l;
  field = λ o x w. field walked t ds l o x;
  item = λ n v w. item ds w.state.heap n v;
  offers = λ n v w. offers ds w.state.heap n v;
}

-- what the call of an implementation brings: nothing of it depends on the modules that are known
abbrev pub target_world : OfTarget Work
target_world = record {
  place = λ known. implementation_place;
  first = record { files = []; actions = [] };
  files = λ w. w.files;
  actions = λ w. w.actions;
}

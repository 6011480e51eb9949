-- Worked calls, fields and items in an implementation, by computation.
use Rattle.std.specs.Prelude.{◌≡◌, ℕ, true, false, List, [], ◌∷◌, Some, Ok, Err, refl, codes}
use Rattle.depsets.specs.declared.element.FileRef.{FileRef}
use Rattle.leaves.specs.declared.leaf.BuiltIn.TheVariants as built_in
use Rattle.leaves.specs.declared.leaf.ExportName.TheVariants as export
use Rattle.leaves.specs.declared.leaf.FunctionRef.{FunctionRef}
use Rattle.leaves.specs.declared.leaf.Leaf.TheVariants as plain
use Rattle.leaves.specs.declared.leaf.Object.TheVariants as object
use Rattle.ticks.specs.declared.ticks.Kind.TheVariants as fault
use Rattle.values.specs.declared.value.Value.{Value}
use Rattle.values.specs.declared.value.Value.TheVariants as value
use Rattle.actions.specs.declared.action.Action.{Action}
use Rattle.actions.specs.declared.action.Inputs.TheVariants as inputs
use Rattle.operations.specs.Arguments.{Given}
use Rattle.operations.specs.Instances.{default_info}
use Rattle.operations.specs.Making.{none, text}
use Rattle.operations.specs.declared.state.State.{State}
use Rattle.language.specs.Place.{Place}
use Rattle.language.specs.declared.whole.Whole.{Whole}
use Rattle.workspace.specs.Labels.{LabelParts}
use Rattle.workspace.specs.Paths.{are_segments}
use Rattle.targets.specs.declared.outcome.Outcome.TheVariants.{Source}
use Rattle.targets.specs.declared.target.Target.{Target}
use Rattle.contexts.specs.Fields.{object_value}
use Rattle.contexts.specs.declared.work.Work.{Work}
use Rattle.implementations.specs.Implementations.{implementation_place, target_world}

abbrev label : List ℕ → LabelParts
label n = record { «package» = codes "a"; name = n }

abbrev function : FunctionRef
function = record { id = record { «module» = 0; number = 0 }; path = codes "a/r.bzl"; name = codes "_r" }

-- //a:x without attributes, and with a dependency on a source file
abbrev target : Target
target = record { label = label (codes "x"); rule = record { implementation = function; attributes = [] }; values = [] }

abbrev s_file : FileRef
s_file = record { path = codes "a/s.txt"; owner = codes "//a:s.txt" }

abbrev place : Place Work
place = implementation_place (label (codes "x")) target ((label (codes "s.txt"), Source s_file) ∷ [])

abbrev state : State
state = record { heap = []; ticks = record { limit = 5; used = 0 }; owner = codes "//a:x"; depsets = 0; file = 1; globals = []; loaded = []; defaults = [] }

abbrev with_work : Work → Whole Work
with_work w = record { state = state; work = w }

abbrev first : Whole Work
first = with_work target_world.first

abbrev nothing : Given
nothing = record { items = []; names = []; values = [] }

abbrev giving : List Value → Given
giving vs = record nothing { items = vs }

-- ---- calls that are a module's, or a BUILD file's, before all else

provider_call : place.call (plain.BuiltIn built_in.Provider) nothing first ≡ Err fault.Place
provider_call = refl

rule_function_call : place.call (plain.BuiltIn built_in.Rule) nothing first ≡ Err fault.Place
rule_function_call = refl

rule_call : place.call (plain.Rule (record { id = record { «module» = 0; number = 0 }; name = record { path = codes "a/r.bzl"; name = export.Global (codes "r") } })) nothing first ≡ Err fault.Place
rule_call = refl

attr_call : place.method (plain.Object object.Attr) (codes "string") (giving (none ∷ [])) first ≡ Err fault.Place
attr_call = refl

-- ---- methods: those of `attr` and of `ctx.actions`, and no others

attr_has : place.has_method (plain.Object object.Attr) (codes "label_list") ≡ true
attr_has = refl

attr_has_not : place.has_method (plain.Object object.Attr) (codes "output") ≡ false
attr_has_not = refl

actions_have : place.has_method (plain.Object object.ContextActions) (codes "run_shell") ≡ true
actions_have = refl

actions_have_not : place.has_method (plain.Object object.ContextActions) (codes "args") ≡ false
actions_have_not = refl

context_has_not : place.has_method (plain.Object object.Context) (codes "write") ≡ false
context_has_not = refl

target_has_not : place.has_method (plain.Target 0) (codes "label") ≡ false
target_has_not = refl

-- ---- the work: a File, and then an action that makes it; the state stays

abbrev o : FileRef
o = record { path = codes "a/o"; owner = codes "//a:x" }

abbrev writes_o : Action
writes_o = record { mnemonic = codes "FileWrite"; outputs = o ∷ []; inputs = inputs.Files []; words = []; content = Some [] }

declares : place.method (plain.Object object.ContextActions) (codes "declare_file") (giving (text (codes "o") ∷ [])) first
    ≡ Ok (value.Leaf (plain.File o), with_work (record { files = o ∷ []; actions = [] }))
unfolding are_segments
declares = refl

writes : place.method (plain.Object object.ContextActions) (codes "write") (giving (value.Leaf (plain.File o) ∷ text [] ∷ [])) (with_work (record { files = o ∷ []; actions = [] }))
    ≡ Ok (none, with_work (record { files = o ∷ []; actions = writes_o ∷ [] }))
writes = refl

writes_undeclared : place.method (plain.Object object.ContextActions) (codes "write") (giving (value.Leaf (plain.File o) ∷ text [] ∷ [])) first ≡ Err fault.Place
writes_undeclared = refl

-- ---- fields and items

context_attr : place.field (plain.Object object.Context) (codes "attr") first ≡ Ok (object_value object.ContextAttr)
context_attr = refl

target_label : place.field (plain.Target 0) (codes "label") first ≡ Ok (value.Leaf (plain.Label (codes "//a:s.txt")))
target_label = refl

no_item : place.item 0 none first ≡ Err fault.Wrong
no_item = refl

offers_info : place.offers 0 (value.Leaf (plain.Provider default_info)) first ≡ Ok true
offers_info = refl

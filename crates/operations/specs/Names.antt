-- Names of the top level and functions, of the file that is evaluated and of those that are linked
-- with it. (Starlark's specification, "Name binding and variables" and "Function definitions".)
use Rattle.std.specs.Prelude.{ℕ, List, [], Option, Some, None, Ok, nat_eq}
use Rattle.std.specs.Option.{option_or}
use Rattle.std.specs.Prelude.{slice_get, slice_set, if◌then◌else◌}
use Rattle.leaves.specs.declared.leaf.Leaf.{Leaf}
use Rattle.leaves.specs.declared.leaf.Leaf.TheVariants as plain
use Rattle.leaves.specs.declared.leaf.MadeId.{MadeId}
use Rattle.values.specs.declared.value.Value.{Value}
use Rattle.values.specs.declared.value.Value.TheVariants as value
use Rattle.ticks.specs.declared.ticks.Kind.TheVariants as kind
use Rattle.operations.specs.States.{Op, keeping}
use Rattle.operations.specs.Items.{or_fault}
use Rattle.operations.specs.declared.state.State.{State}

-- What is known of the files that are linked, all of which were evaluated before: the values of the
-- names of their top levels, by the number of the file and of the name, the defaults of their
-- functions, and what a load asks for, by the file that loads, the text of the label, and the name.
pub record Linked : Type 0 where
  pub names : ℕ → ℕ → Option Value
  pub defaults : MadeId → List Value
  pub asked : ℕ → List ℕ → List ℕ → Option Value

-- what stands in a slot, once it is set
abbrev pub in_slot : Option (Option Value) → Option Value
in_slot (Some o) = o
in_slot None = None

-- the value of a name of the file that is evaluated, once it is bound
abbrev pub name_value : State → ℕ → Option Value
name_value s n = option_or (in_slot (slice_get s.globals n)) (in_slot (slice_get s.loaded n))

-- a name of the top level is read: `unset` before it is bound
abbrev pub global : Linked → ℕ → ℕ → Op Value
global world f n s =
    keeping (or_fault kind.Unset (if nat_eq f s.file then name_value s n else world.names f n)) s

-- A name of the top level is bound. Only the top level of the file that is evaluated does it, each
-- name once.
abbrev pub set_global : ℕ → ℕ → Value → State → State
set_global f n v s =
    if nat_eq f s.file then record s { globals = slice_set s.globals n (Some v) } else s

-- a name that a load binds
abbrev pub set_loaded : ℕ → ℕ → Value → State → State
set_loaded f n v s =
    if nat_eq f s.file then record s { loaded = slice_set s.loaded n (Some v) } else s

-- what a load asks for
abbrev pub load : Linked → ℕ → List ℕ → List ℕ → Op Value
load world f label x s = keeping (or_fault kind.Unset (world.asked f label x)) s

-- The function that a `def` makes: its defaults were evaluated then, once. Only modules have
-- functions, and the owner of a module is its path.
abbrev pub function_made : MadeId → List ℕ → State → Value
function_made id x s = value.Leaf (plain.Function (record { id = id; path = s.owner; name = x }))

-- a `def` is done: its function is made, and its defaults are kept under the function's number
abbrev pub define : MadeId → List ℕ → List Value → Op Value
define id x vs s =
    Ok (function_made id x s, record s { defaults = slice_set s.defaults id.number vs })

-- the defaults that are kept for a function, which are none where it has none
abbrev pub listed : Option (List Value) → List Value
listed (Some vs) = vs
listed None = []

-- the defaults of a function, which may be one of another file
abbrev pub defaults : Linked → MadeId → State → List Value
defaults world id s =
    if nat_eq id.«module» s.file then listed (slice_get s.defaults id.number) else world.defaults id

-- which function written in Starlark a value without parts is, if it is one
abbrev pub leaf_function : Leaf → Option MadeId
leaf_function (plain.Function f) = Some f.id
leaf_function _ = None

-- the same of any value
abbrev pub function_of : Value → Option MadeId
function_of (value.Leaf l) = leaf_function l
function_of _ = None

-- Methods, where `t.to_list()` lists a depset plainly (Bazel's documentation of depsets).
use Rattle.std.specs.Prelude.{List, map, Option, Some, None, Result, Ok, Err}
use Rattle.depsets.specs.Listed.{flat}
use Rattle.depsets.specs.Own.{Own}
use Rattle.depsets.specs.Rose.{Rose}
use Rattle.values.specs.Shape.{shape}
use Rattle.ticks.specs.declared.ticks.Kind.{Kind}
use Rattle.ticks.specs.declared.ticks.Kind.TheVariants as kind
use Rattle.values.specs.declared.value.Value.{Value}
use Rattle.operations.specs.Arguments.{Given, positions}
use Rattle.operations.specs.Calls as usual
use Rattle.operations.specs.Depsets.{element_value}
use Rattle.operations.specs.Making.{new_list}
use Rattle.operations.specs.Methods.{with_none}
use Rattle.operations.specs.Reading.{depset_in}
use Rattle.operations.specs.States.{Op}
use Rattle.operations.specs.declared.method.Method.{Method}
use Rattle.operations.specs.declared.method.Method.TheVariants as method

-- a new list of the depset's elements: the walk of its whole tree, and of each element the first
-- occurrence
abbrev pub to_list : Rose Own → Op Value
to_list d s = new_list (map element_value (flat d)) s

-- `to_list()` of a depset, which takes no argument; of any other value it is `type`
abbrev pub of_depset : Option (Rose Own) → List Value → Op Value
of_depset (Some d) vs s = with_none (to_list d) vs s
of_depset None vs s = Err kind.Wrong

-- the same, of a value with the positions that a call gives, or the fault of its arguments
abbrev pub listed_with : Result (List Value) Kind → Value → Op Value
listed_with (Ok vs) v s = of_depset (depset_in (shape s.heap v)) vs s
listed_with (Err k) v s = Err k

-- the call of a method: any other is what it always is
abbrev pub method_call : Method → Value → Given → Op Value
method_call method.ToList v g s = listed_with (positions g) v s
method_call m v g s = usual.method_call m v g s

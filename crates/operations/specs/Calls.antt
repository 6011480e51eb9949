-- Calls of what isn't written in Starlark, but for what only one place has: `provider`, `rule`,
-- `attr`, rules, and the methods of `ctx.actions`.
use Rattle.std.specs.Prelude.{ℕ, List, Option, Some, None, Result, Ok, Err, codes}
use Rattle.depsets.specs.Rose.{Rose}
use Rattle.depsets.specs.Own.{Own}
use Rattle.values.specs.Shape.{shape}
use Rattle.leaves.specs.declared.leaf.BuiltIn.{BuiltIn}
use Rattle.leaves.specs.declared.leaf.BuiltIn.TheVariants as built_in
use Rattle.leaves.specs.declared.leaf.MadeId.{MadeId}
use Rattle.leaves.specs.declared.leaf.Provider.{Provider}
use Rattle.values.specs.declared.value.Value.{Value}
use Rattle.ticks.specs.declared.ticks.Kind.{Kind}
use Rattle.ticks.specs.declared.ticks.Kind.TheVariants as kind
use Rattle.operations.specs.declared.method.Method.{Method}
use Rattle.operations.specs.declared.method.Method.TheVariants as method
use Rattle.operations.specs.States.{Op}
use Rattle.operations.specs.Reading.{string_in, depset_in}
use Rattle.operations.specs.Making.{entries_in}
use Rattle.operations.specs.Changes.{append, extend}
use Rattle.operations.specs.Arguments.{Given, positions}
use Rattle.operations.specs.Depsets.{depset, to_list}
use Rattle.operations.specs.Instances.{constructed, new_default_info}
use Rattle.operations.specs.BuiltIns.{argument, with_argument, len, str, range, list, fail}
use Rattle.operations.specs.Methods.{with_one, with_none, get, keys, values, pairs}
use Rattle.operations.specs.Strings.{split, join, starts_with, ends_with}

-- the calls of built-in functions; None for those of one place
abbrev pub built_in_call : BuiltIn → Given → Option (Op Value)
built_in_call built_in.Len g = Some (with_argument (argument (codes "x") g) len)
built_in_call built_in.Str g = Some (with_argument (argument (codes "x") g) str)
built_in_call built_in.List g = Some (with_argument (argument (codes "x") g) list)
built_in_call built_in.Fail g = Some (with_argument (argument (codes "text") g) fail)
built_in_call built_in.Range g = Some (range g)
built_in_call built_in.Depset g = Some (depset g)
built_in_call built_in.Provider g = None
built_in_call built_in.Rule g = None

-- a provider makes an instance; `DefaultInfo` is the one that no module makes
abbrev pub made_by : Option MadeId → Provider → Given → Op Value
made_by (Some id) p g s = constructed p g s
made_by None p g s = new_default_info p g s

-- a provider is called (Bazel's documentation of providers)
abbrev pub instance_call : Provider → Given → Op Value
instance_call p g s = made_by p.id p g s

-- a method of one argument that only a string has: called on any other value it is `type`
abbrev pub of_text : (List ℕ → Value → Op Value) → Option (List ℕ) → List Value → Op Value
of_text f (Some t) vs s = with_one (f t) vs s
of_text f None vs s = Err kind.Wrong

-- a method without arguments that only a depset has: called on any other value it is `type`
abbrev pub of_depset : Option (Rose Own) → List Value → Op Value
of_depset (Some d) vs s = with_none (to_list d) vs s
of_depset None vs s = Err kind.Wrong

-- what each method does with its arguments by position, for the value that it is called on
abbrev pub method_of : Method → Value → List Value → Op Value
method_of method.Append v vs s = with_one (append v) vs s
method_of method.Extend v vs s = with_one (extend v) vs s
method_of method.Get v vs s = get (entries_in (shape s.heap v)) vs s
method_of method.Keys v vs s = with_none (keys (entries_in (shape s.heap v))) vs s
method_of method.Values v vs s = with_none (values (entries_in (shape s.heap v))) vs s
method_of method.Items v vs s = with_none (pairs (entries_in (shape s.heap v))) vs s
method_of method.Join v vs s = of_text join (string_in (shape s.heap v)) vs s
method_of method.Split v vs s = of_text split (string_in (shape s.heap v)) vs s
method_of method.StartsWith v vs s = of_text starts_with (string_in (shape s.heap v)) vs s
method_of method.EndsWith v vs s = of_text ends_with (string_in (shape s.heap v)) vs s
method_of method.ToList v vs s = of_depset (depset_in (shape s.heap v)) vs s

-- a method is called: it takes positions alone, and `arity` comes before all else
abbrev pub method_with : Result (List Value) Kind → Method → Value → Op Value
method_with (Ok vs) m v s = method_of m v vs s
method_with (Err k) m v s = Err k

-- the call of a method, with what it is given
abbrev pub method_call : Method → Value → Given → Op Value
method_call m v g s = method_with (positions g) m v s

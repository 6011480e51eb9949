-- What a module leaves to the files that load it, once its evaluation has ended (Starlark
-- specification, "Freezing a value" and "Load statements"; docs/PROFILE.md, "After a module's top
-- level").
use Rattle.std.specs.Prelude.{ℕ, List, Option, option_map, option_and_then, position}
use Rattle.std.specs.Option.{option_or, option_flatten}
use Rattle.std.specs.Prelude.{bytes_eq, slice_get, is_some}
use Rattle.std.specs.List.{filter}
use Rattle.values.specs.Shape.{value_of}
use Rattle.values.specs.View.{FrozenTree}
use Rattle.values.specs.declared.value.Value.{Value}
use Rattle.loading.specs.Loads.{Path, Name}
-- What a module hands on: the names of its top level by number, those first that its loads bind;
-- the frozen values of its globals by the same numbers; the values of the names that its loads
-- bind; the frozen defaults of its functions; and what it made.
pub use Rattle.evaluation.specs.declared.handed.Module.{Module}

-- the modules that an evaluation knows, by path: those that were evaluated before and have no fault
abbrev pub Known : Type 0
Known = Path → Option Module

-- the value of a module's global, by its number among the frozen ones
abbrev pub frozen_value : List (Option FrozenTree) → ℕ → Option Value
frozen_value ts n = option_map value_of (option_flatten (slice_get ts n))

-- what a load gets that asks a module for a name
abbrev pub global_named : Name → Module → Option Value
global_named x m = option_and_then (frozen_value m.globals) (position (bytes_eq x) m.names)

-- the names that a module hands on, which are those that it binds itself; what it loaded isn't
-- among them
abbrev pub global_names : Module → List Name
global_names m = filter (λ x. is_some (global_named x m)) m.names

-- the value of a name of the top level, by its number, as the module's functions read it
abbrev pub name_value : ℕ → Module → Option Value
name_value n m = option_or (frozen_value m.globals n) (option_flatten (slice_get m.loaded n))

-- What a walk goes over. (Starlark specification, "For loops"; docs/PROFILE.md, "Walks".)
use Rattle.std.specs.Prelude.{List, []}
use Rattle.values.specs.Shape.{Shape, items, entries}
pub use Rattle.values.specs.Visits.{keys_as_values}
use Rattle.values.specs.declared.value.Value.{Value}
use Rattle.values.specs.declared.held.Walked.{Walked}
use Rattle.values.specs.declared.held.Walked.TheVariants as walked

-- what a walk goes over: items, and of a dict its keys, in order of insertion
abbrev pub walked_items : Shape → List Value
walked_items (items j xs) = xs
walked_items (entries es) = keys_as_values es
walked_items _ = []

-- the same, of what is shared for a walk
abbrev pub walked_values : Walked → List Value
walked_values (walked.Items xs) = xs
walked_values (walked.Entries es) = keys_as_values es
walked_values walked.Nothing = []

-- The items of a cell, which it owns until the first walk over them, or has behind a count. (This
-- project's own.)
use Rattle.std.specs.Prelude.{List}
use Rattle.values.specs.declared.value.Value.{Value}
use Rattle.values.specs.declared.held.KeptItems.{KeptItems}
use Rattle.values.specs.declared.held.KeptItems.TheVariants as kept

-- the items, wherever they lie
abbrev pub kept_items : KeptItems → List Value
kept_items (kept.Own xs) = xs
kept_items (kept.Shared r) = r.value

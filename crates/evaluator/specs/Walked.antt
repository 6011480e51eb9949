-- The items that a walk has left, as the values that they are. (This project's own.)
use Rattle.std.specs.Prelude.{◌≡◌, List, [], ◌∷◌, Option, MatchOption, drop}
use Rattle.values.specs.declared.sees.Table.{Table}
use Rattle.values.specs.declared.value.Value.{Value}
use Rattle.values.specs.Seeing.{table_entries}
use Rattle.values.specs.Shape.{branch_shape}
use Rattle.values.specs.Walks.{keys_as_values}
use Rattle.operations.specs.Walks.{walked_items}
use Rattle.evaluator.specs.declared.left.FrozenLeft.{FrozenLeft}
use Rattle.evaluator.specs.declared.left.HeldItemsLeft.{HeldItemsLeft}
use Rattle.evaluator.specs.declared.left.HeldKeysLeft.{HeldKeysLeft}
use Rattle.evaluator.specs.declared.left.Left.{Left}
use Rattle.evaluator.specs.declared.left.Left.TheVariants as left

-- the keys of entries that are lent, as values, in order of insertion
abbrev pub table_keys : Table → List Value
table_keys t = keys_as_values (table_entries t)

-- the items that are left of a list or tuple of the heap
abbrev pub held_items_seen : HeldItemsLeft → List Value
held_items_seen l = drop l.place l.items

-- the keys that are left of a dict of the heap
abbrev pub held_keys_seen : HeldKeysLeft → List Value
held_keys_seen l = drop l.place (keys_as_values l.entries)

-- what is left of a frozen value that the walk holds a share of
abbrev pub frozen_seen : FrozenLeft → List Value
frozen_seen l = drop l.place (walked_items (branch_shape l.branch))

-- what a `for` loop or a comprehension has still to go over, in order
abbrev pub left_seen : Left → List Value
left_seen (left.HeldItems l) = held_items_seen l
left_seen (left.HeldKeys l) = held_keys_seen l
left_seen (left.Frozen l) = frozen_seen l
left_seen (left.Items l) = l
left_seen (left.Keys l) = keys_as_values l
left_seen left.Nothing = []

-- what is left gives its first item, None where there is none
abbrev pub Gives : List Value → Option Value → List Value → Type 0
Gives before next after = MatchOption next ((before ≡ []) × (after ≡ [])) (λ v. before ≡ v ∷ after)

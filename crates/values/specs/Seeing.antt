-- What the views of a value show. (This project's own.)
use Rattle.std.specs.Borrow.{Bor}
use Rattle.std.specs.Prelude.{List, map, true, false, Option, Some, None}
use Rattle.values.specs.Shape.{Shape, key, atom, items, entries, fields, nothing, value_of, slot_of}
use Rattle.values.specs.Shape.{zip}
use Rattle.keys.specs.declared.key.Key.{Key}
use Rattle.leaves.specs.Lent.{leaf_at}
use Rattle.values.specs.declared.value.Value.{Value}
use Rattle.values.specs.declared.value.Value.TheVariants as value
use Rattle.values.specs.declared.sees.Item.{Item}
use Rattle.values.specs.declared.sees.Item.TheVariants as item
use Rattle.values.specs.declared.sees.Group.{Group}
use Rattle.values.specs.declared.sees.Group.TheVariants as group
use Rattle.values.specs.declared.sees.Table.{Table}
use Rattle.values.specs.declared.sees.Table.TheVariants as table
use Rattle.values.specs.declared.sees.Slots.{Slots}
use Rattle.values.specs.declared.sees.Slots.TheVariants as slot
use Rattle.values.specs.declared.sees.Seen.{Seen}
use Rattle.values.specs.declared.sees.Seen.TheVariants as see

-- the value that an item is, wherever it lies: of the program, in a frozen value, or a key of a
-- dict
abbrev pub item_value : Item → Value
item_value (item.Key k) = value.Key k.now
item_value (item.Leaf l) = value.Leaf (leaf_at l)
item_value (item.Cell n) = value.Cell n
item_value (item.Branch b) = value.Frozen b.now

-- the value that there is, if any
abbrev pub option_value : Option Item → Option Value
option_value (Some i) = Some (item_value i)
option_value None = None

-- the items of a list or a tuple, whether it is frozen or not
abbrev pub group_items : Group → List Value
group_items (group.Values s) = s.now
group_items (group.Trees s) = map value_of s.now
group_items (group.Lent s) = map value_of s.now

-- the entries of a dict in their order, whether it is frozen or not
abbrev pub table_entries : Table → List (Key × Value)
table_entries (table.Values e) = e.now
table_entries (table.Trees ks ts) = zip ks.now.keys ts.now
table_entries (table.Lent ks ts) = zip ks.now.keys ts.now

-- an entry of a dict as a view lends it: its key, and the value that its item is
abbrev pub entry_value : Bor Key × Item → Key × Value
entry_value e = (e.0.now, item_value e.1)

-- the fields of an instance by place, whether it is frozen or not
abbrev pub slot_values : Slots → List (Option Value)
slot_values (slot.Values s) = s.now
slot_values (slot.Trees s) = map slot_of s.now
slot_values (slot.Lent s) = map slot_of s.now

-- what a view of a value shows, in the words that equality, freezing and `str` are told in
abbrev pub seen : Seen → Shape
seen (see.Key k) = key k.now
seen (see.Leaf l) = atom (leaf_at l)
seen (see.List g) = items true (group_items g)
seen (see.Tuple g) = items false (group_items g)
seen (see.Dict t) = entries (table_entries t)
seen (see.Instance p s) = fields p.now (slot_values s)
seen see.Nothing = nothing

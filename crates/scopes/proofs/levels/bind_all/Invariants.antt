use Rattle.std.proofs.Common.{◌≡◌, ◌≤◌, [], List, drop, length, take}
use Rattle.std.specs.Prelude.{bytes_eq}
use Rattle.indexmap.specs.IndexSet.{insert_all}
use Rattle.program_tree.specs.Names.{Name, width}
use Rattle.scopes.specs.ScopeView.{AreLevel, HasSlots, names_in}
use Rattle.scopes.proofs.levels.bind_all.Given as goal

abbrev pub invariant-loop-name : goal.invariant-loop-name
invariant-loop-name l =
    (ls : List (List Name)) → width ls ≡ l.first → HasSlots l.initial.slots.entries ls
    → (insert_all bytes_eq [] l.names ≡ insert_all bytes_eq (names_in (drop l.first l.bound.items)) (drop l.name-index l.names))
    × AreLevel l.slots.entries (drop l.first l.bound.items) ls
    × (take l.first l.bound.items ≡ l.initial.bound.items)
    × (l.first ≤ length l.bound.items)

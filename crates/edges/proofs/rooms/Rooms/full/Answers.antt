use Rattle.std.proofs.Common.{◌≡◌, ℕ, ◌<◌, List, length, get_or, ap, ◌∙◌, arith, sym, subst}
use Rattle.edges.specs.Rows.{row}
use Rattle.edges.specs.Flat.{flat_rows}
use Rattle.edges.specs.Rooms.{RoomsView, filled, rooms, IsRoomy}
use Rattle.edges.proofs.Filling.{filled_full, filled_len}
use Rattle.edges.proofs.rooms.Rooms.full.Goals as goal

whole : (starts ends entries : List ℕ) (v : RoomsView) → IsRoomy starts ends entries → record { lists = filled starts ends entries; room = rooms starts (length ends) } ≡ v
    → ((n : ℕ) → n < length v.lists → length (row v.lists n) ≡ get_or v.room n 0) → flat_rows starts entries ≡ v.lists
whole starts ends entries v is view full =
    filled_full starts ends entries is
    (λ n low. subst (λ w. n < length w.lists → length (row w.lists n) ≡ get_or w.room n 0) (sym view) (full n) (omega (arith, low, filled_len starts ends entries)))
    ∙ ap (λ w. w.lists) view

pub returns : goal.returns
returns c = c.of.ensures ∙ whole c.self.inside.starts.items c.self.inside.ends.items c.self.inside.entries.items c.args.self c.self.invariant c.self.view_is c.requires.full

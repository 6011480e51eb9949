use Rattle.std.proofs.Common.{◌∙◌, sym}
use Rattle.edges.proofs.Filling.{roomy_empty, empty_lists, empty_rooms, filled_len, ends_len}
use Rattle.edges.proofs.rooms.Rooms.of.Goals as goal

pub invariant_of-result : goal.invariant_of-result
invariant_of-result c =
    roomy_empty c.args.sizes.now c.in_ok-starts.starts.items c.in_ok-starts.ends.items c.in_ok-entries.entries.items c.in_ok-starts.ensures.starts c.in_ok-starts.ensures.ends (sym c.in_ok-entries.entries.ok.0 ∙ c.in_ok-entries.ensures.len ∙ c.requires.total)

pub returns-clause-len : goal.returns-clause-len
returns-clause-len c =
    filled_len c.in_ok-starts.starts.items c.in_ok-starts.ends.items c.in_ok-entries.entries.items
    ∙ ends_len c.args.sizes.now c.in_ok-starts.starts.items c.in_ok-starts.ends.items c.in_ok-entries.entries.items c.in_ok-starts.ensures.starts c.in_ok-starts.ensures.ends (sym c.in_ok-entries.entries.ok.0 ∙ c.in_ok-entries.ensures.len ∙ c.requires.total)

pub returns-clause-empty : goal.returns-clause-empty
returns-clause-empty c =
    empty_lists c.args.sizes.now c.in_ok-starts.starts.items c.in_ok-starts.ends.items c.in_ok-entries.entries.items c.in_ok-starts.ensures.starts c.in_ok-starts.ensures.ends (sym c.in_ok-entries.entries.ok.0 ∙ c.in_ok-entries.ensures.len ∙ c.requires.total)

pub returns-clause-room : goal.returns-clause-room
returns-clause-room c =
    empty_rooms c.args.sizes.now c.in_ok-starts.starts.items c.in_ok-starts.ends.items c.in_ok-entries.entries.items c.in_ok-starts.ensures.starts c.in_ok-starts.ensures.ends (sym c.in_ok-entries.entries.ok.0 ∙ c.in_ok-entries.ensures.len ∙ c.requires.total)

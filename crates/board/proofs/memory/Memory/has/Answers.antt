use Rattle.std.proofs.Common.{◌∙◌}
use Rattle.board.proofs.NoteLists.{tracked, has_room}
use Rattle.board.proofs.memory.Memory.has.Goals as goal

pub is_up-requires : goal.is_up-requires
is_up-requires g c = has_room c.self.inside.notes.items c.self.inside.flags c.args.self.now c.args.n c.self.view_is c.self.invariant c.requires

pub returns : goal.returns
returns g c = c.is_up.ensures ∙ (tracked c.self.inside.notes.items c.self.inside.flags c.args.self.now c.self.view_is c.self.invariant).same c.args.n c.requires

use Rattle.std.proofs.Common.{ap, ◌∙◌}
use Rattle.board.proofs.NoteLists.{learns, flagged, has_room, learned_now, learned_else, some_is}
use Rattle.board.specs.Views.{known_at}
use Rattle.board.proofs.memory.Memory.learn.Goals as goal

pub raise-requires : goal.raise-requires
raise-requires g c = has_room c.self.inside.notes.items c.self.inside.flags c.args.self.now c.args.n c.self.view_is c.self.invariant c.requires.node

pub invariant_of-self : goal.invariant_of-self
invariant_of-self g c =
    flagged c.self.inside.notes.items c.self.inside.flags c.raise.new.self c.args.n c.args.note c.args.self.now c.self.view_is c.self.invariant c.requires.node c.requires.note.1
    c.raise.ensures.room c.raise.ensures.up c.raise.ensures.others

pub returns-clause-value : goal.returns-clause-value
returns-clause-value g c v is =
    let r = learns c.self.inside.notes.items c.args.self.now c.args.n c.args.note v c.self.view_is c.requires.node c.requires.note.0 is in
    (r, ap (λ z. known_at z c.args.n) r ∙ learned_now c.args.self.now c.args.n v c.requires.node)

pub returns-clause-others : goal.returns-clause-others
returns-clause-others g c k ne =
    let s = some_is c.args.note.known c.requires.note.1 in
    let r = learns c.self.inside.notes.items c.args.self.now c.args.n c.args.note s.0 c.self.view_is c.requires.node c.requires.note.0 s.1 in
    learned_else c.args.self.now _ c.args.n k s.0 r ne

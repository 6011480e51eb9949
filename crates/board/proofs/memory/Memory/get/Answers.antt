use Rattle.std.proofs.Common.{ap, ◌∙◌}
use Rattle.board.specs.Views.{known_at, is_known}
use Rattle.board.proofs.NoteLists.{note_in, cell_at, got_none, got_some, flagged, has_room, learned_now, learned_else, learned_keeps}
use Rattle.board.proofs.memory.Memory.get.Goals as goal

pub index_mut-requires : goal.index_mut-requires
index_mut-requires g c = note_in c.self.inside.notes.items c.args.self.now c.self.inside.notes.len c.args.n c.self.view_is c.self.inside.notes.ok.0 c.requires.node

pub get_as-requires : goal.get_as-requires
get_as-requires g c = cell_at c.self.inside.notes.items c.args.self.now c.args.n c.index_mut.result.now c.self.view_is c.requires.node c.index_mut.ensures.value ∙ c.requires.cell

pub raise-requires : goal.raise-requires
raise-requires g c = has_room c.self.inside.notes.items c.self.inside.flags c.args.self.now c.args.n c.self.view_is c.self.invariant c.requires.node

pub invariant_of-self : goal.invariant_of-self
invariant_of-self g c =
    (got_none c.self.inside.notes.items c.self.inside.flags c.args.self.now c.args.n c.index_mut.result.now c.get_as.new.note c.self.view_is c.self.invariant c.requires.node c.index_mut.ensures.value
    c.get_as.ensures.cell c.in-None.ensures.value.0 c.in-None.ensures.value.1).0

pub invariant_of-self-in-Some : goal.invariant_of-self-in-Some
invariant_of-self-in-Some g c =
    flagged c.self.inside.notes.items c.self.inside.flags c.raise.new.self c.args.n c.get_as.new.note c.args.self.now c.self.view_is c.self.invariant c.requires.node
    (ap is_known c.in-Some.ensures.value.0) c.raise.ensures.room c.raise.ensures.up c.raise.ensures.others

pub returns-in-None : goal.returns-in-None
returns-in-None g c =
    let r = got_none c.self.inside.notes.items c.self.inside.flags c.args.self.now c.args.n c.index_mut.result.now c.get_as.new.note c.self.view_is c.self.invariant c.requires.node c.index_mut.ensures.value
    c.get_as.ensures.cell c.in-None.ensures.value.0 c.in-None.ensures.value.1 in
    record { value = (r.1, r.2); now = tt; others = λ k ne. ap (λ z. known_at z k) r.2; keeps = λ k v is. ap (λ z. known_at z k) r.2 ∙ is }

pub returns-in-Some : goal.returns-in-Some
returns-in-Some g c =
    let r = got_some c.self.inside.notes.items c.args.self.now c.args.n c.index_mut.result.now c.get_as.new.note c.in-Some.value.now c.self.view_is c.requires.node
    c.index_mut.ensures.value c.get_as.ensures.cell c.in-Some.ensures.value.0 c.in-Some.ensures.value.1 in
    let m = c.args.self.now in let v = c.in-Some.value.now in let lt = c.requires.node in
    record {
      value = r;
      now = ap (λ z. known_at z c.args.n) r.1 ∙ learned_now m c.args.n v lt;
      others = λ k ne. learned_else m _ c.args.n k v r.1 ne;
      keeps = learned_keeps m _ c.args.n v lt r.0 r.1;
    }

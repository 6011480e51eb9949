use Rattle.std.proofs.Common.{◌≡◌, List, ap, sym, ◌∙◌, subst}
use Rattle.once_cell.specs.declared.race.note.Note.{Note}
use Rattle.board.specs.Flags.{Tracks}
use Rattle.board.specs.Views.{knowns_of}
use Rattle.board.proofs.NoteLists.{mem, note_in, cell_at, set_back}
use Rattle.board.proofs.memory.Memory.another.Goals as goal

pub index_mut-requires : goal.index_mut-requires
index_mut-requires g c = note_in c.self.inside.notes.items c.args.self.now c.self.inside.notes.len c.args.n c.self.view_is c.self.inside.notes.ok.0 c.requires

pub invariant_of-self : goal.invariant_of-self
invariant_of-self g c =
    subst (λ (l : List (Note g.row.V.Denot)). Tracks c.self.inside.flags (knowns_of l)) (sym (set_back c.self.inside.notes.items c.args.n c.index_mut.result.now c.again.new.self c.index_mut.ensures.value c.again.ensures.0)) c.self.invariant

pub returns : goal.returns
returns g c = (
  ap (λ (l : List (Note g.row.V.Denot)). mem l) (set_back c.self.inside.notes.items c.args.n c.index_mut.result.now c.again.new.self c.index_mut.ensures.value c.again.ensures.0) ∙ c.self.view_is,
  ap (λ (n : Note g.row.V.Denot). n.cell) c.again.ensures.1 ∙ cell_at c.self.inside.notes.items c.args.self.now c.args.n c.index_mut.result.now c.self.view_is c.requires c.index_mut.ensures.value,
)

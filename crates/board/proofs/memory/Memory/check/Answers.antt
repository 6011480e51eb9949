use Rattle.std.proofs.Common.{◌≡◌, List, ap, sym, ◌∙◌, subst}
use Rattle.std.specs.Prelude.{Option}
use Rattle.once_cell.specs.declared.race.note.Note.{Note}
use Rattle.board.specs.Flags.{Tracks}
use Rattle.board.specs.Views.{knowns_of, Same}
use Rattle.board.proofs.NoteLists.{mem, note_in, cell_at, known_there, set_back}
use Rattle.board.proofs.memory.Memory.check.Goals as goal

pub index_mut-requires : goal.index_mut-requires
index_mut-requires g c = note_in c.self.inside.notes.items c.args.self.now c.self.inside.notes.len c.args.n c.self.view_is c.self.inside.notes.ok.0 c.requires.0

pub compare-requires : goal.compare-requires
compare-requires g c = sym (cell_at c.self.inside.notes.items c.args.self.now c.args.n c.index_mut.result.now c.self.view_is c.requires.0 c.index_mut.ensures.value ∙ c.requires.1)

pub invariant_of-self : goal.invariant_of-self
invariant_of-self g c =
    subst (λ (l : List (Note g.row.V.Denot)). Tracks c.self.inside.flags (knowns_of l)) (sym (set_back c.self.inside.notes.items c.args.n c.index_mut.result.now c.compare.new.self c.index_mut.ensures.value c.compare.ensures.0)) c.self.invariant

pub returns : goal.returns
returns g c = (
  ap (λ (l : List (Note g.row.V.Denot)). mem l) (set_back c.self.inside.notes.items c.args.n c.index_mut.result.now c.compare.new.self c.index_mut.ensures.value c.compare.ensures.0) ∙ c.self.view_is,
  subst (λ (o : Option g.row.V.Denot). Same o c.args.note.known) (known_there c.self.inside.notes.items c.args.self.now c.args.n c.index_mut.result.now c.self.view_is c.requires.0 c.index_mut.ensures.value) c.compare.ensures.1,
)

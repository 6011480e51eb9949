use Rattle.std.proofs.Common.{inl, ap, ◌∙◌, sym, subst, refl, ◌<◌, ◌≡◌}
use Rattle.std.specs.Prelude.{None, Some}
use Rattle.board.specs.Journal.{times}
use Rattle.once_cell.specs.Once.{cell_name}
use Rattle.board.specs.Views.{BoardView, PassView, known_at, knows, is_known}
use Rattle.board.proofs.Backed.{node_known, cell_there, backed_learned, level_learned, not_ended, not_sent}
use Rattle.board.proofs.board.Board.publish.Goals as goal

pub learn-requires-clause-node : goal.learn-requires-clause-node
learn-requires-clause-node g c =
    node_known cell_name c.self.inside.cells.items c.self.inside.table.shared.key.plan c.args.self.now c.args.pass.now c.pass.inside.memory c.args.n (ap (λ (b : BoardView). b.cells) c.self.view_is)
    (ap (λ (b : BoardView). b.plan) c.self.view_is) c.self.invariant.0 (ap (λ (p : PassView g.row.V.Denot). p.memory.cells) c.pass.view_is) c.requires.pass c.requires.node c.pass.invariant.2

pub learn-requires-clause-note : goal.learn-requires-clause-note
learn-requires-clause-note g c = (
  cell_there cell_name c.self.inside.cells.items c.self.inside.table.shared.key.plan c.args.self.now c.args.pass.now c.pass.inside.memory c.args.n (ap (λ (b : BoardView). b.cells) c.self.view_is)
      (ap (λ (b : BoardView). b.plan) c.self.view_is) c.self.invariant.0 (ap (λ (p : PassView g.row.V.Denot). p.memory.cells) c.pass.view_is) c.requires.pass c.requires.node c.index-cell.result.now c.index-cell.ensures
      ∙ sym (c.set_as.ensures.cell ∙ c.note-note.ensures.0),
  ap is_known c.in-Ok-set_as.ensures.value.0,
)

pub invariant_of-pass : goal.invariant_of-pass
invariant_of-pass g c =
    let i = c.pass.invariant in let e = (c.learn.ensures.value c.args.v (c.in-Ok-set_as.ensures.value.0 ∙ ap Some c.in-Ok.ensures.ok)).0 in
    let P : PassView g.row.V.Denot → Type 0 = λ q. 0 < times c.args.n q.journal.started in let s = subst P (sym c.pass.view_is) c.requires.started in (
      i.0,
      i.1,
      level_learned c.pass.inside.memory c.learn.new.self c.args.n c.args.v i.2 e,
      backed_learned _ c.pass.inside.memory c.learn.new.self c.args.n c.args.v i.3 (inl s) e,
    )

pub returns-in-Ok-set_as-clause-of : goal.returns-in-Ok-set_as-clause-of
returns-in-Ok-set_as-clause-of g c =
    let e = (c.learn.ensures.value c.args.v (c.in-Ok-set_as.ensures.value.0 ∙ ap Some c.in-Ok.ensures.ok)).0 in let w = c.pass.view_is in let r = c.requires.pass in (
      ap (λ (p : PassView g.row.V.Denot). p.table) w ∙ r.0,
      ap (λ m. m.cells) e ∙ ap (λ (p : PassView g.row.V.Denot). p.memory.cells) w ∙ r.1,
      ap (λ (p : PassView g.row.V.Denot). p.journal.plan) w ∙ r.2,
    )

pub returns-in-Ok-set_as-clause-held : goal.returns-in-Ok-set_as-clause-held
returns-in-Ok-set_as-clause-held g c =
    let n = c.args.n in let m = c.pass.inside.memory in let v = (c.learn.ensures.value c.args.v (c.in-Ok-set_as.ensures.value.0 ∙ ap Some c.in-Ok.ensures.ok)).1 in
    let P : PassView g.row.V.Denot → Type 0 = λ q. 0 < times n q.journal.started in
    let none : known_at m n ≡ None = ap (λ (p : PassView g.row.V.Denot). knows p n) c.pass.view_is ∙ c.requires.fresh in (
      refl,
      record { started = subst P (sym c.pass.view_is) c.requires.started; known = ap is_known v; unended = not_ended _ m n c.pass.invariant.3 none },
      not_sent _ m n c.pass.invariant.3 none,
    )

pub returns-in-Ok-set_as-clause-value : goal.returns-in-Ok-set_as-clause-value
returns-in-Ok-set_as-clause-value g c = (c.learn.ensures.value c.args.v (c.in-Ok-set_as.ensures.value.0 ∙ ap Some c.in-Ok.ensures.ok)).1
